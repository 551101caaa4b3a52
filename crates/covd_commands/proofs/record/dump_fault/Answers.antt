use Rattle.std.proofs.Common.{◌≡◌, ℕ, List, Some, subst}
use Rattle.std.specs.Prelude.{Result, Ok, Err, IfOk}
use Rattle.std.specs.Result.{result_ok}
use Rattle.vcd_reader.specs.Refusals.{Fails}
use Rattle.covd_commands.specs.Dumps.{made_of}
use Rattle.covd_commands.proofs.record.dump_fault.Goals as goal

-- what a result is whose value was taken
taken : {T E : Type 0} (r : Result T E) (x : T) (P : T → Type 0) → Some x ≡ result_ok r → IfOk r P → P x
taken (Ok y) x P is h = let same : y ≡ x = cc is in subst P same h
taken (Err e) x P is h = absurd (cc is)

pub returns : goal.returns
returns c =
    let text = c.in_ok-text.text in
    let is_text = taken c.read_text.result text _ c.in_ok-text.ensures.value c.read_text.ensures.declared in
    let is_id = taken c.of.result c.in_ok-id.id _ c.in_ok-id.ensures.value c.of.ensures in
    let fails = subst (λ (id : List ℕ). Fails c.in-Err.fault (made_of text.tree text.design c.args.bytes.now c.args.scope.now id)) is_id c.in-Err.ensures in
    (text.tree, text.design, is_text, fails)
