-- What is shown behind waivers.
use Rattle.std.proofs.Common.{◌≡◌, ℕ, List, ◌++◌, Ok, sym, ap, ◌∙◌, append_assoc}
use Rattle.design_data.specs.declared.design.Design.{Design}
use Rattle.cov_history.specs.declared.entry.Entry.{Entry}
use Rattle.cov_history.specs.Answers.{nodes_at}
use Rattle.store_views.specs.Views.{rows_at}
use Rattle.waivers.specs.declared.waiver.Waiver.{Waiver}
use Rattle.store_waivers.specs.Waived.{waiving}
use Rattle.store_waivers.specs.Lines.{waiver_lines, hit_lines, unwaived_line}
use Rattle.covd_commands.specs.Options.{Options}
use Rattle.covd_commands.specs.declared.forms.Form.{Form}
use Rattle.covd_filling.specs.Outcomes.{Filled}
use Rattle.covd_core.specs.Command.{shown_at, shown_waived}

-- written piece by piece: the lines of waivers behind those of records, and the hits behind both
pub behind_is : (options : Options) (form : Form) (source : List ℕ) (waivers : List Waiver) (d e : Design) (f : Filled) (h : List Entry) (told all below : List ℕ)
    → e ≡ d → waiving d f.history waivers ≡ Ok h → told ≡ f.left ++ waiver_lines (nodes_at d f.history) waivers → all ≡ told ++ hit_lines e h → below ≡ unwaived_line (rows_at d f.history 0).millionths
    → shown_at options form source f.partly (record { notes = all; below = below }) e h ≡ shown_waived options form source waivers d f (waiving d f.history waivers)
behind_is options form source waivers d e f h told all below same made first then' under =
    let lines = waiver_lines (nodes_at d f.history) waivers in
    let notes : all ≡ f.left ++ (lines ++ hit_lines d h) =
    then' ∙ ap (λ (x : List ℕ). x ++ hit_lines e h) first ∙ append_assoc f.left lines (hit_lines e h) ∙ ap (λ (x : Design). f.left ++ (lines ++ hit_lines x h)) same in
    (λ i. shown_at options form source f.partly (record { notes = notes i; below = under i }) (same i) h) ∙ ap (shown_waived options form source waivers d f) (sym made)
