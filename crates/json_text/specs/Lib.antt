pub mod Values
pub mod Laws
pub use Rattle.json.specs.Json
pub use Rattle.json.specs.Print
pub use Rattle.json.specs.Token
pub use Rattle.json.specs.Tree
