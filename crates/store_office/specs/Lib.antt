pub mod Office
pub mod Reference
