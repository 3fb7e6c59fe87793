mod OfApp
mod Through
