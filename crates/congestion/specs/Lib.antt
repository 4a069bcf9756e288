pub mod Towards
