mod Chosen
mod Had
mod Read
mod Since
