pub mod Worked
pub mod Components
pub mod OldCoordinates
pub mod Margins
pub mod FourOffices
