use Rattle.std.proofs.Common.{◌≡◌, ℕ, List, [], ◌∷◌, ◌++◌, ap, ◌∙◌}
use Rattle.vcd_dump.specs.declared.packing.Item.{Item}
use Rattle.vcd_dump.specs.Packing.{items_in, item_bytes}
use Rattle.vcd_dump.proofs.Unpacked.{whole_at_first, whole_as, still_whole, one_more_item}
use Rattle.vcd_dump.proofs.packed.Packed.push.Goals as goal

pub invariant_of-self : goal.invariant_of-self
invariant_of-self c = whole_as c.replace-bytes.new.dest.items [] (ap (λ v. v.items) c.replace-bytes.ensures.after ∙ c.new.ensures.items) whole_at_first

pub invariant_of-self-2 : goal.invariant_of-self-2
invariant_of-self-2 c =
    let same : c.replace-bytes.result.items ≡ c.self.inside.bytes.items = ap (λ v. v.items) c.replace-bytes.ensures.value in
    whole_as c.append_item.new.bytes.items (c.self.inside.bytes.items ++ item_bytes c.args.item) (c.in_ok-append_item.ensures.bytes ∙ ap (λ (x : List ℕ). x ++ item_bytes c.args.item) same)
    (still_whole c.self.inside.bytes.items c.args.item c.self.invariant c.in_ok-append_item.ensures.fits)

pub returns : goal.returns
returns c =
    let same : c.replace-bytes.result.items ≡ c.self.inside.bytes.items = ap (λ v. v.items) c.replace-bytes.ensures.value in
    ap items_in (c.in_ok-append_item.ensures.bytes ∙ ap (λ (x : List ℕ). x ++ item_bytes c.args.item) same) ∙ one_more_item c.self.inside.bytes.items c.args.item c.self.invariant c.in_ok-append_item.ensures.fits
    ∙ ap (λ (items : List Item). items ++ c.args.item ∷ []) c.self.view_is
