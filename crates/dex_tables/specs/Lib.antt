pub mod Headers
pub mod Parts
pub mod Sequences
pub mod Tables
pub mod TablesStand
pub mod Totals
pub mod TypeLists
