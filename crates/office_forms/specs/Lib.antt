pub mod Declaration
pub mod Layouts
pub mod Manifest
pub mod Office
pub mod OneForm
pub mod Sound
