pub mod Count
pub mod Files
pub mod MemoryFilesView
pub mod MemorySinkView
pub mod Sink
pub mod SinkView
pub mod Sure
pub mod SureFiles
