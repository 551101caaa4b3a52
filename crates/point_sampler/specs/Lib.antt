pub mod Plans
pub mod Points
pub mod Met
pub mod Quick
pub use Rattle.point_tables.specs.Tables
