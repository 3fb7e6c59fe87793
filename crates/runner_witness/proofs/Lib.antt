mod Acting
mod Beginning
mod Calling
mod Raising
