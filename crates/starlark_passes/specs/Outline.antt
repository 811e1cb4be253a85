pub mod Outline
pub mod Tops
pub mod Listed
