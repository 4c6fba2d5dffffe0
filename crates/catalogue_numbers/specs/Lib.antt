-- A catalogue's state in lent bytes, what is answered on it, and that it can be packed.
pub mod Catalogues
pub mod CatalogueState
pub mod CatalogueBounds
