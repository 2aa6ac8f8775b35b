-- Definitions
pub mod Densities

-- Laws
