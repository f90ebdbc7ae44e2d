use Rattle.std.proofs.Common.{◌-◌, ◌++◌, not, length, take, drop, arith, ap, refl, sym, ◌∙◌}
use Rattle.std.proofs.lemmas.List.{length-append, length-drop, take-append-drop, take_all, take_at}
use Rattle.std.proofs.lemmas.Slice.Eq.{bytes_eq-Decides}
use Rattle.signed_notes.proofs.Joined.{by-not}
use Rattle.signed_notes.proofs.ReadBack.{same_bytes}
use Rattle.log_checkpoints.proofs.receipts.after.Goals.{then-bytes-front-via-then-bytes-front, then-bytes-front-via-else-bytes-front+then-ne}
use Rattle.log_checkpoints.proofs.receipts.after.Goals as goal

pub returns-then-bytes-front : goal.returns-then-bytes-front
returns-then-bytes-front c = λ rest is.
    let front = c.args.front.now in
    let bytes = c.args.bytes.now in
    elim c.then-bytes-front.branch [
      | then-bytes-front-via-then-bytes-front w ↦
          absurd (omega (arith, w.if-bytes-front.true, ap length is, length-append front rest))
      | then-bytes-front-via-else-bytes-front+then-ne w ↦
          let same = ap (take (length front)) is ∙ take_at front rest (length front) refl in
          let yes = (bytes_eq-Decides (take (length front) bytes) front).1 same in
          let no = sym w.if-ne.true ∙ w.ne.ensures ∙ ap not yes in
          absurd cc
    ]

pub returns : goal.returns
returns c =
    let front = c.args.front.now in
    let bytes = c.args.bytes.now in
    let n = length front in
    sym (take-append-drop n bytes)
    ∙ ap (λ l. l ++ drop n bytes) (same_bytes (take n bytes) front (by-not _ c.if-ne.ensures))
    ∙ ap (λ l. front ++ l) (sym (take_all (length bytes - n) (drop n bytes) (omega (arith, length-drop n bytes))))
