use Rattle.std.proofs.Common.{List, [], ◌∷◌, ◌++◌, ap, sym, ◌∙◌, append-nil}
use Rattle.json_text.specs.Token.{Token}
use Rattle.json_text.specs.Values.{member_tokens}
use Rattle.json_text.proofs.Parts.{object_written}
use Rattle.export_json.specs.Export.{millionths_member, overall_value}
use Rattle.export_json.proofs.export.write_overall.Goals as goal

pub returns : goal.returns
unfolding overall_value
returns c =
    let m = millionths_member c.args.millionths in
    object_written (m ∷ []) _ _ _ _ c.in_ok-begin_object.ensures
    (c.in_ok-write_millionths.ensures ∙ ap (λ (ts : List Token). c.begin_object.new.self ++ ts) (sym (append-nil (member_tokens m)))) c.in_ok-end_object.ensures
