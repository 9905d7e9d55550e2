pub mod Printed
pub mod Json
