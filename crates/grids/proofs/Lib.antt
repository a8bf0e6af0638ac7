pub mod Points
pub mod Faces
pub mod Beside
pub mod Instance
pub mod Turned
pub mod Facets
