mod Adding
mod Coded
mod Printed
mod Texts
