use Rattle.std.proofs.Common.{◌≡◌, ℕ, ◌-◌, ◌+◌, List, drop, length, sym, subst, arith}
use Rattle.std.proofs.lemmas.List.{drop_all}
use Rattle.waivers.specs.Patterns.{Part}
use Rattle.waivers.specs.Patterns.{fits}
use Rattle.waivers.specs.Pieces.{parts_of, IsRow}
use Rattle.waivers.proofs.Splits.{piece_at}
use Rattle.waivers.proofs.patterns.is_fit_by.Goals as goal

pub loop-next-init : goal.loop-next-init
loop-next-init c =
    let none = drop_all (length c.args.pieces.now) c.args.pieces.now (omega arith) in
    record { within = omega arith; row = rw none c.requires }

pub loop-next-preserved : goal.loop-next-preserved
loop-next-preserved c =
    let at = c.loop-next.next - 1 in
    let e : c.loop-next.next ≡ at + 1 = omega (arith, c.loop-next-test.true) in
    let parts = piece_at c.args.pieces.now at c.index-pieces-next.result (omega (arith, c.loop-next-test.true, c.loop-next.invariant.within)) c.index-pieces-next.is in
    let before = subst (λ (k : ℕ). IsRow (fits (parts_of (drop k c.args.pieces.now))) c.args.path.now c.loop-next.row) e c.loop-next.invariant.row in
    record {
      within = omega (arith, c.loop-next.invariant.within);
      row = subst (λ (ps : List Part). IsRow (fits ps) c.args.path.now c.put_piece.new.row) (sym parts) (c.put_piece.ensures (parts_of (drop (at + 1) c.args.pieces.now)) before);
    }

pub returns : goal.returns
returns c =
    let e : c.loop-next.next ≡ 0 = omega (arith, c.loop-next-test.false) in
    let h = subst (λ (k : ℕ). IsRow (fits (parts_of (drop k c.args.pieces.now))) c.args.path.now c.loop-next.row) e c.loop-next.invariant.row in
    h.tells 0 (omega arith)
