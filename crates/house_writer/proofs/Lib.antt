pub mod Rates
pub mod CheckedForm
pub mod Putting
pub mod WholeFile
pub mod WrittenBack
pub mod OneForm
pub mod FormLength
pub mod Worked
