mod Giving
mod Refusing
