pub mod Inspected
