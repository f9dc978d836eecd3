-- Demand 3: whatever is drawn from a run's blocks and filed, the ledger holds exactly what was told, as it happened.
-- Assumes nothing.
use Prim.Native.Nat.{ℕ, ◌+◌, ◌-◌, ◌*◌, ◌/◌, ◌<◌, ◌≤◌, min}
use mathlib.Core.Path.{◌≡◌, refl, sym, ap, ◌∙◌, subst, fun_ext}
use mathlib.Core.Logic.{◌↔◌, ⊎_elim}
use native.Mathlib.Decide.{dec_lt}
use mathlib.Core.Bool.{Bool, true, not, cond}
use mathlib.Core.List.Memᴰ
use mathlib.Core.List.{List, [], ◌∷◌, ◌++◌, Memᴰ}
use native.Mathlib.Omega.{arith}
use lib.Dec.{eqb}
use lib.ListN.{length}
use borrow.Author.Tests.{eqb-true, eq-eqb, le-leb, lt-ltb}
use Rattle.laws.specs.Checks.{check}
use Rattle.laws.specs.Tests.{sum_below}
use Rattle.laws.proofs.Bools.{iff_trans}
use Rattle.laws.proofs.Checks.{passed_first}
use Rattle.laws.proofs.Split.{by_test, by_dec}
use Rattle.laws.proofs.Tests.{sum_same}
use Rattle.calendar.specs.Clock.{seconds_of_half, halves_of_day, ended_on}
use Rattle.answers.specs.Answer.{Answer}
use Rattle.block.specs.Fields.{ident_in}
use Rattle.block.specs.Parse.{fields, parse}
use Rattle.format.specs.Numbers.{binary, num_at}
use Rattle.format.specs.Identifier.{ident_length, ident_ok, SameMeter}
use Rattle.days.specs.Day.{History, Day, count}
use Rattle.days.specs.View.{Carries, Honest}
use Rattle.days.specs.Desk.{Desk, day_in, fresh, held_in}
use Rattle.days.specs.Desk as desk
use Rattle.days.specs.Told.{AllHonest, untaken}
use Rattle.days.specs.Told as told
use Rattle.days.specs.Energy.{Steady, Metered, Unbroken, advances, Within, Close}
use Rattle.days.proofs.Fold.{reaches, cuts, fit_blocks}
use Rattle.ledger.specs.Layout.{length_of, first_of, days_of}
use Rattle.ledger.specs.Rooms.{slot, pack}
use Rattle.ledger.specs.Judged.{ledger_checks, judged}
use Rattle.ledger.specs.Open.{head_of, open_ok, open_of}
use Rattle.ledger.specs.Asked.{in_window, asked, day_summary, summary_of, day_missing, missing_of}
use Rattle.ledger.proofs.Answers.{opened_well}
use Rattle.ledger.proofs.Packed.{fit_of, first_packed, days_packed}
use Rattle.ledger.proofs.Good.{pack_good}
use Rattle.ledger.proofs.Opening.{opens_of, head_good, count_good}
use Rattle.rooms.specs.View.{view_of}
use Rattle.filing.specs.File.{file_of}
use Rattle.kept.specs.Desk.{filed_as, file_all, taken_by}
use Rattle.kept.specs.Desk as bytes
use Rattle.filing.proofs.Offered.{view_parsed}
use Rattle.kept.proofs.Taken.{parsed_taken}
use Rattle.kept.proofs.Opened.{opened_laws, opened_fresh, window, opened_kept, opened_energy, run_bytes, opened_packed, any_order}
use Rattle.kept.proofs.Meter.{any_meter}
use Rattle.store.specs.Store.{Store}
use Rattle.recorder.specs.declared.SetUp.{SetUp}
use Rattle.recorder.specs.declared.Event.{Event}
use Rattle.recorder.specs.Recorder.{Mem}
use Rattle.recorder.specs.Step.{run}
use Rattle.recorder.specs.SetUp.{set_up, set_up_answer, made}
use Rattle.assurance.specs.Paper.{Counts, Paper, total_at, units_of, history_of}
use Rattle.assurance.specs.Written.{written, blank_paper, written_all, paper}
use Rattle.assurance.specs.Sent.{days_due, fields_due}
use Rattle.assurance.specs.Run.{Call, events_of, blocks_in}
use Rattle.assurance.specs.Delivered.{answers_all, carried_all, held_on, counted, Drawn, Summed, opened, filed, DayTold, HalfTold, Sender, when_read, Gave, DayRead, HalfRead, DayHeld, Holds}
use Rattle.assurance.proofs.Kept.{Given, Kept}
use Rattle.assurance.proofs.Start.{given, made_kept}
use Rattle.assurance.proofs.Run.{kept, run_kept}
use Rattle.assurance.proofs.Past.{Past, past_all}
use Rattle.assurance.proofs.Life.{total_is}
use Rattle.assurance.proofs.Summed.{summed}
use Rattle.assurance.proofs.Reading.{block_reads}
use Rattle.assurance.proofs.Honest.{ident_due, honest}
use Rattle.assurance.proofs.Blocks.{SentAfter, sent_after}
use Rattle.assurance.proofs.Senders.{senders, says_read}
use Rattle.assurance.proofs.Sending.{ended_reached}

-- a life goes on
written_append : (s : SetUp) (p : Paper) (earlier later : List Event) → written_all s p (earlier ++ later) ≡ written_all s (written_all s p earlier) later
unfolding written_all
written_append s p [] later = refl
written_append s p (e ∷ earlier) later = written_append s (written s p e) earlier later

-- a half-hour of day d has ended where its number is below the running one's
ended_so : (t d j : ℕ) → j < halves_of_day → (j < ended_on t d) ↔ (halves_of_day * d + j < t / seconds_of_half)
ended_so t d j few = (λ l. omega (arith, ended_reached t d), λ l. omega (arith, ended_reached t d))

-- ---- a run of filings with no refusal: each answer is 0, and they carry together what is newly held

module _ (hd : List ℕ) where
  abbrev here : Desk (List ℕ) (List ℕ)
  here = bytes.desk hd

  filed_well : (l b : List ℕ) (n : ℕ) → (filed_as (file_of l b)).refused + n ≡ 0 → (file_of l b).answer.number ≡ 0
  unfolding filed_as
  filed_well l b n e =
      by_test (eqb (file_of l b).answer.number 0)
      (λ t. eqb-true (file_of l b).answer.number 0 t)
      (λ t. absurd (let no : 1 + n ≡ 0 = rw t at e in omega arith))

  rest_well : (a n : ℕ) → a + n ≡ 0 → n ≡ 0
  rest_well a n e = omega arith

  answers_well : (l : List ℕ) (bs : List (List ℕ)) → (desk.run here l bs).refused ≡ 0 → (a : Answer) → Memᴰ a (answers_all l bs) → a.number ≡ 0
  unfolding desk.run answers_all filed_as
  answers_well l [] e a i = absurd (Memᴰ.not-nil i)
  answers_well l (b ∷ bs) e a i =
      let n = (desk.run here (file_of l b).ledger bs).refused in
      let rest = answers_well (file_of l b).ledger bs (rest_well (filed_as (file_of l b)).refused n e) a in
      ⊎_elim (λ q. ap (λ (c : Answer). c.number) q ∙ filed_well l b n e) rest (Memᴰ.cases_cons i)

  carried_newly : (l : List ℕ) (bs : List (List ℕ)) → (desk.run here l bs).refused ≡ 0 → carried_all (answers_all l bs) ≡ (desk.run here l bs).newly
  unfolding desk.run answers_all filed_as
  carried_newly l [] e = refl
  carried_newly l (b ∷ bs) e =
      let n = (desk.run here (file_of l b).ledger bs).refused in
      rw (filed_well l b n e, carried_newly (file_of l b).ledger bs (rest_well (filed_as (file_of l b)).refused n e))

module _ (s : SetUp) (x : Store) (cs : List Call) (accepted : (set_up s x).answer ≡ 0) where
  z : Given s
  unfolding set_up
  z = given s x accepted

  abbrev es : List Event
  es = events_of cs

  abbrev h : History
  h = history_of s (paper s es).tape

  -- a block of the run: its fields are the paper's of an earlier time
  record Block (b : List ℕ) : Type 0 where
    many : ℕ
    values : List ℕ
    reads : parse b ≡ fields many values
    own : List ℕ
    right : ident_ok own 0 ≡ true
    same : SameMeter own s.identifier
    meter : ident_in values ≡ num_at binary own 0 ident_length
    view : Honest h (view_of b)

  block_of : (b : List ℕ) → SentAfter s (blank_paper s) es b → Block b
  block_of b r = record {
    many = days_due s p r.asked;
    values = fields_due s p r.asked;
    reads = reads;
    own = p.identifier;
    right = k.name.right;
    same = k.name.meter;
    meter = ident_due s z p y k r.asked;
    view = rw (view_parsed b (days_due s p r.asked) (fields_due s p r.asked) reads) (honest s z p y k r.asked (paper s es) past);
  }
    where
      p : Paper
      p = paper s r.earlier

      y : Mem
      y = run (made s) r.earlier

      k : Kept s p y
      k = run_kept s z r.earlier (blank_paper s) (made s) (made_kept s z)

      reads : parse b ≡ fields (days_due s p r.asked) (fields_due s p r.asked)
      reads = ap parse r.block ∙ block_reads s z p y k r.asked

      past : Past s p (paper s es)
      past =
          subst (λ (u : Paper). Past s p u)
          (sym (ap (λ (l : List Event). paper s l) r.whole ∙ written_append s (blank_paper s) r.earlier r.later))
          (past_all s p r.later)

  made_is : (set_up s x).after ≡ made s
  unfolding set_up
  made_is = rw (eq-eqb (set_up_answer s x) 0 accepted)

  block : (b : List ℕ) → Memᴰ b (blocks_in (set_up s x).after cs) → Block b
  block b i = block_of b (sent_after s z cs (blank_paper s) (made s) (made_kept s z) b (subst (λ (y : Mem). Memᴰ b (blocks_in y cs)) made_is i))

  -- ---- the desk

  module _ (l id : List ℕ) (first days : ℕ) (bs : List (List ℕ)) (of : SameMeter id s.identifier) (well : (open_of l id first days).answer ≡ 0) (drawn : Drawn s x cs bs) where
    abbrev hd : List ℕ
    hd = head_of id first days

    abbrev D : Desk (List ℕ) (List ℕ)
    D = bytes.desk (head_of id first days)

    ok : open_ok id first days ≡ true
    ok = (opened_well l id first days well).0

    long : length l ≡ length_of days
    long = (opened_well l id first days well).1

    takes : (b : List ℕ) → Memᴰ b bs → taken_by hd b ≡ true
    takes b i = let k = block b (drawn b i) in parsed_taken id k.own first days k.right (λ q past h. of q past h ∙ sym (k.same q past h)) b k.many k.values k.reads k.meter

    all_honest : AllHonest D h bs
    all_honest b i t = (block b (drawn b i)).view

    kept_all : told.Kept D h bs
    kept_all = opened_kept id first days ok h bs all_honest

    -- the theory's ledger is the bytes that filing leaves
    filed_is : (desk.run D (fresh D) bs).ledger ≡ filed s x cs l id first days bs
    filed_is = run_bytes id first days ok (fresh D) bs ∙ ap (λ (m : List ℕ). file_all m bs) (sym (opened_fresh id first days ok l long))

    window_is : (first_of hd ≡ first) × (days_of hd ≡ days)
    window_is = window id first days ok

    -- ---- its answers

    none_untaken : (ds : List (List ℕ)) → ((b : List ℕ) → Memᴰ b ds → taken_by hd b ≡ true) → untaken D ds ≡ 0
    none_untaken [] t = refl
    none_untaken (b ∷ ds) t = let rest = none_untaken ds (λ c i. t c (Memᴰ.tail i)) in rw (t b (Memᴰ.head refl)) (omega arith)

    none_refused : (desk.run D (fresh D) bs).refused ≡ 0
    none_refused = kept_all.refused ∙ none_untaken bs takes

    -- ---- its bytes

    abbrev f : ℕ → Day
    f = cuts D (opened_laws id first days ok) h (reaches D (opened_laws id first days ok) h bs)

    packed : filed s x cs l id first days bs ≡ pack hd (days_of hd) f
    packed = opened_packed id first days ok l long h bs all_honest

    first_is : first_of (filed s x cs l id first days bs) ≡ first
    first_is = ap (λ (m : List ℕ). first_of m) packed ∙ first_packed hd (days_of hd) f ∙ window_is.0

    days_is : days_of (filed s x cs l id first days bs) ≡ days
    days_is = ap (λ (m : List ℕ). days_of m) packed ∙ days_packed hd (days_of hd) f ∙ window_is.1

    good : judged (filed s x cs l id first days bs) ≡ 0
    good =
        let o = opens_of id first days ok in
        ap judged packed
        ∙ pack_good hd f (count_good id first days o) (head_good id first days o)
        (λ i j. fit_of (f i) (fit_blocks D (opened_laws id first days ok) h bs all_honest i j))

    in_window_lem : (i : ℕ) → i < days → in_window (filed s x cs l id first days bs) (first + i) ≡ true
    unfolding in_window
    in_window_lem i j = rw (first_is, days_is, le-leb first (first + i) (omega arith), lt-ltb (first + i) (first + days) (omega arith))

    asked_is : (i : ℕ) → i < days → asked (filed s x cs l id first days bs) (first + i) ≡ 0
    unfolding asked judged ledger_checks
    asked_is i j =
        let y = filed s x cs l id first days bs in
        sym (passed_first (ledger_checks y) (check (not (in_window y (first + i))) 6 ∷ []) refl good)
        ∙ ap (λ (b : Bool). cond (not b) 6 0) (in_window_lem i j)

    missing_is : (i : ℕ) → i < days → missing_of (filed s x cs l id first days bs) (first + i) ≡ day_missing (slot (filed s x cs l id first days bs) i)
    unfolding missing_of
    missing_is i j = let at : first + i - first ≡ i = omega arith in rw (asked_is i j, first_is, at)

    summary_is : (i : ℕ) → i < days → summary_of (filed s x cs l id first days bs) (first + i) ≡ day_summary (slot (filed s x cs l id first days bs) i)
    unfolding summary_of
    summary_is i j = let at : first + i - first ≡ i = omega arith in rw (asked_is i j, first_is, at)

    -- ---- each day

    told_day : (i : ℕ) → i < days → told.Told D h bs (first + i) (slot (filed s x cs l id first days bs) i)
    told_day i j =
        subst (λ (y : List ℕ). told.Told D h bs (first + i) (slot y i)) filed_is
        (subst (λ (d : ℕ). told.Told D h bs (d + i) (slot (desk.run D (fresh D) bs).ledger i)) window_is.0
        (kept_all.day i (rw window_is.1 j)))

    day_iff : (d : ℕ) → told.DayTold D h bs d ↔ DayTold s x cs l id first days bs d
    day_iff d = (λ t. (t.0, t.1, t.3), λ t. (t.0, t.1, takes t.0 t.1, t.2))

    half_iff : (d j : ℕ) → told.HalfTold D h bs d j ↔ HalfTold s x cs l id first days bs d j
    half_iff d j = (λ t. (t.0, t.1, t.3, t.4), λ t. (t.0, t.1, takes t.0 t.1, t.2, t.3))

    -- the half-hours from k on, up to 48, are those that P leaves out, where P holds of those below k
    lacks : (k : ℕ) (P : ℕ → Type 0) → k ≤ 48 → ((j : ℕ) → (j < k) ↔ P j) → (j : ℕ) → ((k ≤ j) × (j < k + (48 - k))) ↔ ((j < 48) × (P j → ⊥))
    lacks k P few iff j = (
      λ o. (omega (arith, o.1), λ q. let below = (iff j).1 q in omega (arith, o.0)),
      λ o. by_dec (dec_lt j k) (λ below. absurd (o.1 ((iff j).0 below))) (λ above. (omega arith, omega (arith, o.0))),
    )

    held_at : (i : ℕ) → i < days → held_on (filed s x cs l id first days bs) (first + i) ≡ slot (filed s x cs l id first days bs) i
    unfolding held_on
    held_at i j = let at : first + i - first ≡ i = omega arith in rw (in_window_lem i j, first_is, at)

    -- ---- told is read

    read_by : (b : List ℕ) → Memᴰ b bs → Sender s x cs l id first days bs b
    read_by b i = (senders (set_up s x).after cs b).0 (drawn b i)

    module _ (b : List ℕ) (r : Sender s x cs l id first days bs b) (d : ℕ) where
      abbrev at_read : Mem
      at_read = when_read s x cs l id first days bs b r

      time_said : (view_of b).time ≡ at_read.recorder.clock.time
      time_said = (says_read (set_up s x).after cs b r).0

      days_said : (view_of b).days ≡ min r.asked at_read.recorder.clock.days
      days_said = (says_read (set_up s x).after cs b r).1

      gave : Carries (view_of b) d → Gave s x cs l id first days bs b r d
      gave c = rw (time_said, days_said) at c

      carried : Gave s x cs l id first days bs b r d → Carries (view_of b) d
      carried g = rw (time_said, days_said) g

    day_read : (d : ℕ) → DayTold s x cs l id first days bs d ↔ DayRead s x cs l id first days bs d
    day_read d = (
      λ t. let r = read_by t.0 t.1 in (t.0, t.1, r, gave t.0 r d t.2),
      λ t. (t.0, t.1, carried t.0 t.2 d t.3),
    )

    half_read : (d j : ℕ) → j < halves_of_day → HalfTold s x cs l id first days bs d j ↔ HalfRead s x cs l id first days bs d j
    half_read d j few = (
      λ t.
          let r = read_by t.0 t.1 in
          let u = rw (time_said t.0 r d) at t.3 in
          (t.0, t.1, r, gave t.0 r d t.2, (ended_so (at_read t.0 r d).recorder.clock.time d j few).0 u),
      λ t.
          let r = t.2 in
          (t.0, t.1, carried t.0 r d t.3, rw (time_said t.0 r d) ((ended_so (at_read t.0 r d).recorder.clock.time d j few).1 t.4)),
    )

    day_held : (i : ℕ) → i < days → DayHeld s x cs l id first days bs (first + i) (held_on (filed s x cs l id first days bs) (first + i)) (missing_of (filed s x cs l id first days bs) (first + i))
    unfolding day_missing
    day_held i j =
        let t = told_day i j in
        let y = slot (filed s x cs l id first days bs) i in
        let half : (j : ℕ) → (j < count y) ↔ HalfTold s x cs l id first days bs (first + i) j = λ j. iff_trans (t.half j) (half_iff (first + i) j) in
        rw (missing_is i j, held_at i j)
        record {
          day = iff_trans t.day (day_iff (first + i));
          half = half;
          start = t.start;
          value = t.value;
          flags = t.whole;
          part = t.part;
          missing = refl;
          lack = lacks (count y) (HalfTold s x cs l id first days bs (first + i)) t.room half;
        }

    day_summed : (i : ℕ) → i < days → Summed h (first + i) (held_on (filed s x cs l id first days bs) (first + i)) (summary_of (filed s x cs l id first days bs) (first + i))
    day_summed i j =
        let t = told_day i j in
        rw (summary_is i j, held_at i j) (summed h (first + i) (slot (filed s x cs l id first days bs) i) t.room t.start t.value)

    -- ---- the energy

    abbrev c : Counts
    c = (paper s es).tape.counts

    metered : Metered h (total_at s c)
    unfolding history_of
    metered = record { start = λ d. refl; half = λ d j l. refl }

    steady : Steady (total_at s c)
    unfolding units_of
    steady = let k = kept s x es accepted in record { up = k.at.energy.up; slow = λ q. omega (arith, k.at.energy.slow q) }

    held_is : (d : ℕ) → day_in D (desk.run D (fresh D) bs).ledger d ≡ held_on (filed s x cs l id first days bs) d
    unfolding day_in held_on in_window
    held_is d = rw (filed_is, first_is, days_is, window_is.0, window_is.1)

    energy : (q n : ℕ) → Unbroken (held_on (filed s x cs l id first days bs)) q n
        → Within (advances (held_on (filed s x cs l id first days bs)) q n) (counted s x cs q n)
    energy q n u =
        let y = day_in D (desk.run D (fresh D) bs).ledger in
        let same : y ≡ held_on (filed s x cs l id first days bs) = fun_ext held_is in
        let e : Close (total_at s c) (held_on (filed s x cs l id first days bs)) q n =
        subst (λ (g : ℕ → Day). Close (total_at s c) g q n) same
        (opened_energy id first days ok h bs all_honest (total_at s c) metered steady q n (subst (λ (g : ℕ → Day). Unbroken g q n) (sym same) u)) in
        let a = total_is s x es accepted (q + n) in
        let b = total_is s x es accepted q in
        omega (arith, e.0, e.1)

    -- ---- all of it

    pub holds : Holds s x cs l id first days bs
    unfolding held_in
    holds = record {
      answers = λ a i. answers_well hd (opened s x cs l id first days bs) bs refused_none a i;
      read = read_by;
      told_day = day_read;
      told_half = half_read;
      day = day_held;
      summary = day_summed;
      newly =
          carried_newly hd (opened s x cs l id first days bs) bs refused_none
          ∙ ap (λ (m : List ℕ). (desk.run D m bs).newly) fresh_is
          ∙ kept_all.newly
          ∙ ap (λ (y : List ℕ). sum_below (λ i. count (slot y i)) (days_of hd)) filed_is
          ∙ ap (λ (n : ℕ). sum_below (λ i. count (slot (filed s x cs l id first days bs) i)) n) window_is.1
          ∙ sum_same (λ i. count (slot (filed s x cs l id first days bs) i)) (λ i. count (held_on (filed s x cs l id first days bs) (first + i))) days (λ i j. ap count (sym (held_at i j)));
      order = λ m ds o same. sym (any_order id first days ok l m long (opened_well m id first days o).1 h bs ds all_honest same);
      other = λ m j ds also o same.
          let p = opened_well m j first days o in
          any_meter id j first days (λ q past h. also q past h ∙ sym (of q past h)) ok p.0 h l m long p.1 bs ds all_honest same;
      energy = λ q n u. let e = energy q n u in omega (arith, e.0, e.1);
    }
      where
        fresh_is : opened s x cs l id first days bs ≡ fresh D
        fresh_is = opened_fresh id first days ok l long

        refused_none : (desk.run D (opened s x cs l id first days bs) bs).refused ≡ 0
        refused_none = ap (λ (m : List ℕ). (desk.run D m bs).refused) fresh_is ∙ none_refused
