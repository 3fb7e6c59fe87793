pub mod ClassKeys
pub mod FieldKeys
pub mod First
pub mod HandedRows
pub mod Held
pub mod Numbering
pub mod RowKeys
