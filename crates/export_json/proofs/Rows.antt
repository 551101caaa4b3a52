-- Rows of tests, and rows of a ranking.
use Rattle.std.proofs.Common.{◌≡◌, ℕ, zero, suc, ◌<◌, List, [], ◌∷◌, length, slice_index_or, refl, arith}
use Rattle.ucis_model.specs.declared.answers.HistoryNode.{HistoryNode}
use Rattle.export_json.specs.Export.{ids_in}

pub id_at : (rows : List HistoryNode) (k : ℕ) (d : HistoryNode) → k < length rows → (slice_index_or rows k d).id ≡ slice_index_or (ids_in rows) k []
id_at [] k d h = absurd (omega (arith, h))
id_at (row ∷ rows) zero d h = refl
id_at (row ∷ rows) (suc k) d h = id_at rows k d (omega (arith, h))
