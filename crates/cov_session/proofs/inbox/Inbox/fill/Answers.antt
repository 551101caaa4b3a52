use Rattle.std.proofs.Common.{◌≡◌, ◌∙◌, ◌-◌, ◌≤◌, arith, drop, take, length, ap}
use Rattle.cov_session.specs.Fills.{longest_frame}
use Rattle.cov_session.proofs.Buffers.{filled_all, written, took_long}
use Rattle.cov_session.proofs.inbox.Inbox.fill.Goals as goal
use Rattle.cov_session.proofs.inbox.Inbox.fill.Goals.{then-self-eq-LONGEST_FRAME, else-self-eq-LONGEST_FRAME}

pub returns-clause-fills : goal.returns-clause-fills
returns-clause-fills g c =
    let i = c.if-self-eq-LONGEST_FRAME.self-inside in
    let v : drop i.start (take i.end i.bytes.items) ≡ c.args.self.now = elim c.if-self-eq-LONGEST_FRAME.branch [
      | then-self-eq-LONGEST_FRAME w ↦ rw w.self-inside-is (ap (take (c.self.inside.end - c.self.inside.start)) (written c.self.inside.bytes.len w.to_front.new.bytes c.self.inside.bytes.items (omega (arith, w.to_front.auto.bytes, ap length w.as_mut_slice.ensures.value))) ∙ (w.to_front.ensures ∙ (ap (λ b. drop c.self.inside.start (take c.self.inside.end b)) w.as_mut_slice.ensures.value ∙ c.self.view_is)))
      | else-self-eq-LONGEST_FRAME w ↦ rw w.self-inside-is c.self.view_is
    ] in
    let iv : (i.start ≤ i.end) × (i.end ≤ longest_frame) × (length i.bytes.items ≡ longest_frame) = elim c.if-self-eq-LONGEST_FRAME.branch [
      | then-self-eq-LONGEST_FRAME w ↦ rw w.self-inside-is (omega arith, omega (arith, c.self.invariant.1), ap length (written c.self.inside.bytes.len w.to_front.new.bytes c.self.inside.bytes.items (omega (arith, w.to_front.auto.bytes, ap length w.as_mut_slice.ensures.value))) ∙ omega (arith, w.to_front.auto.bytes, ap length w.as_mut_slice.ensures.value, c.self.invariant.2))
      | else-self-eq-LONGEST_FRAME w ↦ rw w.self-inside-is c.self.invariant
    ] in
    let nb : length c.read_at.new.bytes ≡ length i.bytes.items = c.read_at.auto.bytes ∙ ap length c.as_mut_slice-2.ensures.value in
    record {
      got = take c.in_ok-count.count (drop i.end c.read_at.new.bytes);
      long = took_long c.in_ok-count.count i.end c.min-room.result c.read_at.new.bytes c.in_ok-count.ensures.bound (omega (arith, c.min-room.ensures, iv.1, iv.2, nb));
      is = filled_all i.start i.end c.in_ok-count.count i.bytes.len i.bytes.items i.bytes.items c.read_at.new.bytes c.args.self.now iv.0 (omega (arith, iv.1, iv.2)) v (c.in_ok-count.ensures.front ∙ ap (take i.end) c.as_mut_slice-2.ensures.value) (omega (arith, nb));
      takes = c.in_ok-count.ensures.reads.0;
      ends = c.in_ok-count.ensures.reads.1;
    }
