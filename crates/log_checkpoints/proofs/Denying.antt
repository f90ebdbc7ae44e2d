-- Requests that are denied by their notes.
use Rattle.std.proofs.Common.{ℕ, List, inl, inr}
use Rattle.ark_paths.specs.Pair.{Digest}
use Rattle.log_checkpoints.specs.Adding.{IsAdding, IsUnopenedFor, IsUnprepared}
use Rattle.log_checkpoints.specs.Witnessing.{WitnessParts}
use Rattle.log_checkpoints.specs.declared.adding.Unprepared.{Unprepared}
use Rattle.log_checkpoints.specs.declared.adding.Unprepared.TheVariants.{Failed, Rejected}

pub unopened : (w : WitnessParts) (time : ℕ) (request : List ℕ) (old : ℕ) (path : List Digest) (note : List ℕ)
    → IsAdding old path note request → (why : Unprepared) → IsUnopenedFor w old note why
    → IsUnprepared w time request why
unopened w time request old path note read (Rejected why) is = λ held. inr (record {
  old = old;
  path = path;
  note = note;
  read = read;
  told = inl is;
})
unopened w time request old path note read (Failed fault) is = inl is
