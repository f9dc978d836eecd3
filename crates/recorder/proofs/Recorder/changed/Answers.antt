use Rattle.std.proofs.Common.{inl, inr}
use Rattle.recorder.proofs.Answers.{accepted_counts, accepted_resets, accepted_flags}
use Rattle.recorder.proofs.Effects.{no_clock, no_on, no_adjust}
use Rattle.recorder.proofs.Recorder.changed.Goals as goal

pub counted-requires : goal.counted-requires
counted-requires c = search accepted_counts

pub flag_today-requires : goal.flag_today-requires
flag_today-requires c = accepted_flags _ _ _ _ _ c.requires.0

pub flag_today-requires-in-Reset : goal.flag_today-requires-in-Reset
flag_today-requires-in-Reset c = accepted_flags _ _ _ _ _ c.requires.0

pub was_reset-requires : goal.was_reset-requires
was_reset-requires c = accepted_resets _ _ _ _ _ c.requires.0

pub returns-in-Clock-clause-is : goal.returns-in-Clock-clause-is
returns-in-Clock-clause-is c =
    elim c.in-Clock.is [
      | inl w ↦ absurd (no_clock _ _ _ c.requires.1 w.1)
      | inr w ↦ elim w [ inl w ↦ absurd (no_on _ _ _ c.requires.1 w.1) | inr w ↦ absurd (no_adjust _ _ _ c.requires.1 w.1) ]
    ]
