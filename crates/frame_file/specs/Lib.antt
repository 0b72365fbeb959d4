pub mod FrameFile
