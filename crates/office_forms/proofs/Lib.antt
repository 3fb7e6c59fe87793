pub mod FormsSound
pub mod OfficeSound
pub mod OnceApart
pub mod OneForms
