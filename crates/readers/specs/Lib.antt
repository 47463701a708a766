pub mod Count
