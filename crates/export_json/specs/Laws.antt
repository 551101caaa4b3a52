-- What holds of each export.
use Rattle.std.specs.Prelude.{◌≡◌, ℕ, List, ◌++◌, [], ◌∷◌, Some}
use Rattle.json_text.specs.Json.{document}
use Rattle.design_data.specs.declared.design.Design.{Design}
use Rattle.cov_history.specs.declared.entry.Entry.{Entry}
use Rattle.export_json.specs.Export.{export_value, json_of}

-- the text is a line that is a JSON text by RFC 8259, and says the value
abbrev pub IsReadBack : (opening : Design) → List Entry → (digest : List ℕ) → Type 0
IsReadBack opening h digest = (line : List ℕ) × (json_of opening h digest ≡ line ++ 10 ∷ []) × (document line ≡ Some (export_value opening h digest))
