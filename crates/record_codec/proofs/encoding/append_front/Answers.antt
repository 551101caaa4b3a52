use Rattle.std.proofs.Common.{ℕ, List, [], ◌∷◌, ◌++◌, ap, ◌∙◌}
use Rattle.std.specs.Int.{w16, w64, to_be_bytes}
use Rattle.record_codec.specs.Bytes.{text}
use Rattle.record_codec.proofs.Appended.{behind}
use Rattle.record_codec.proofs.encoding.append_front.Goals as goal

pub returns : goal.returns
returns c =
    let a = c.args in
    let from_time : List ℕ = to_be_bytes w64 a.time ++ text a.user.now in
    let from_seed : List ℕ = to_be_bytes w64 a.seed ++ from_time in
    let from_status : List ℕ = a.status ∷ from_seed in
    let from_id : List ℕ = text a.id.now ++ from_status in
    let all = c.append_text-2.new.out.items in
    behind a.out.now.items c.append.new.text.items all (67 ∷ 86 ∷ 82 ∷ 67 ∷ []) (to_be_bytes w16 a.version ++ from_id) c.in_ok-append.ensures
    (behind c.append.new.text.items c.append-2.new.text.items all (to_be_bytes w16 a.version) from_id (c.in_ok-append-2.ensures ∙ ap (λ (l : List ℕ). c.append.new.text.items ++ l) c.to_be_bytes.ensures)
    (behind c.append-2.new.text.items c.append_text.new.out.items all (text a.id.now) from_status c.in_ok-append_text.ensures
    (behind c.append_text.new.out.items c.append-3.new.text.items all (a.status ∷ []) from_seed c.in_ok-append-3.ensures
    (behind c.append-3.new.text.items c.append-4.new.text.items all (to_be_bytes w64 a.seed) from_time (c.in_ok-append-4.ensures ∙ ap (λ (l : List ℕ). c.append-3.new.text.items ++ l) c.to_be_bytes-2.ensures)
    (behind c.append-4.new.text.items c.append-5.new.text.items all (to_be_bytes w64 a.time) (text a.user.now) (c.in_ok-append-5.ensures ∙ ap (λ (l : List ℕ). c.append-4.new.text.items ++ l) c.to_be_bytes-3.ensures) c.in_ok-append_text-2.ensures)))))
