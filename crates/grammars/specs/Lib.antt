pub mod Brackets
pub mod BracketsLaws
pub mod Trees
pub mod TreesLaws
pub mod Addresses
pub mod AddressesLaws
