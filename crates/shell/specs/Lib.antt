pub mod Sink
pub mod Disk
pub mod MemoryDisk
pub mod Digits
pub mod Lines
pub mod SystemFaults
pub mod SystemFiles
