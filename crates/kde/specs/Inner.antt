pub mod BinsReady
