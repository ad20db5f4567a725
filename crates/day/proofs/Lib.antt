-- Laws of what is printed, for the functions of this crate, and an example.
mod Printed
mod Examples
