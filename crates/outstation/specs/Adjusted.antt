-- An Adjust of an outstation (docs/TARIFF.md, "In the outstation"): the answer is the recorder's, and with a table loaded the rate is the table's at the new time, ahead and back.
use Rattle.std.specs.Prelude.{ℕ, ◌≤◌, ◌≡◌, length}
use Rattle.registers.specs.declared.Shift.{Shift}
use Rattle.registers.specs.Shift.{shifted}
use Rattle.recorder.specs.declared.Event.TheVariants.{Adjust}
use Rattle.recorder.specs.Recorder.{with}
use Rattle.recorder.specs.Effect.{rate_is}
use Rattle.recorder.specs.Step as recorder
use Rattle.tariff.specs.Table.{table_size}
use Rattle.outstation.specs.Outstation.{Site, most_rate, with_mem, of, rate_then, happens}

module _ (x : Site) (h : Shift) where
  -- what the recorder's step leaves: Ends (recorder, Adjusted) says it for every number of seconds
  abbrev stepped : recorder.Done
  stepped = recorder.step x.mem (Adjust h)

  abbrev new_time : ℕ
  new_time = shifted x.mem.recorder.clock.time h

  pub record Adjusts : Type 0 where
    pub refused : (stepped.answer ≡ 0 → ⊥) → happens x (of (Adjust h)) ≡ record { answer = stepped.answer; carried = 0; after = x }
    pub accepted : stepped.answer ≡ 0
        → happens x (of (Adjust h))
        ≡ record {
          answer = 0;
          carried = 0;
          after = with_mem x (with stepped.after (rate_is (rate_then x.loaded x.phase x.table new_time x.mem.recorder.energy.rate) stepped.after.recorder));
        }

abbrev pub SiteAdjusts : Type 0
SiteAdjusts = (x : Site) (h : Shift) → length x.table ≡ table_size → x.mem.recorder.energy.rate ≤ most_rate x.phase → Adjusts x h
