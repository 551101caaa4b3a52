pub use Rattle.trans_found.specs.Lists
