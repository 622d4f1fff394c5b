-- What Restore accepts: kind 26, and then records that are all applied. Of what a record sets or leaves, the last record that sets it decides.
use Rattle.std.specs.Prelude.{◌≡◌, true, ℕ, length}
use Rattle.std.proofs.Math.Path.{refl, ap}
use Rattle.std.proofs.Common.{sym, ◌∙◌, arith}
use mathlib.Core.List.{List, [], ◌∷◌, ◌++◌}
use Rattle.std.proofs.Math.Option.{Option, none, some}
use Rattle.std.proofs.Math.Bool.{Bool, false, cond}
use Rattle.model.specs.Choice.{given, or_else, joined, last_of}
use Rattle.model.specs.Number.{Bytes, AreBytes, number}
use Rattle.model.specs.Run.{value}
use Rattle.model.specs.Shape.{logged, framed, fault}
use Rattle.model.specs.Record.{Rec, record_bytes}
use Rattle.model.specs.Items.{Items, end, bad, item, items_of, records, is_whole}
use Rattle.model.specs.Contents.{key, Contents, fresh, dated}
use Rattle.model.specs.Image.{is_capacity, image_of}
use Rattle.model.specs.Move.{moved}
use Rattle.model.specs.Apply.{Applied, stays, becomes, apply}
use Rattle.model.specs.Reply.{Reply, accepted, unchanged}
use Rattle.model.specs.Snapshot.{stopped, on_applied, is_offset_rec, Replayed, replay, replay_run, laid_out, restore_of}
use Rattle.laws.specs.Choice.{impossible}
use Rattle.laws.specs.Lists.{All}
use Rattle.laws.specs.Numbers.{left_are_bytes, right_are_bytes}
use Rattle.laws.specs.Map.{Asc}
use Rattle.laws_records.specs.Items.{AllPass, spells-items}
use Rattle.laws_records.specs.Stored.{framed_logged}
use Rattle.laws_image.specs.Fits.{Fits, dated_fits}
use Rattle.laws_image.specs.Orderly.{orderly}
use Rattle.laws_image.specs.Exact.{fields_record}
use Rattle.laws_image.specs.Open.{fresh_fits}
use Rattle.laws_image.specs.Snapshot.{Loggable, offset-held}
use Rattle.laws_restore.specs.Replay.{replay_records}
use Rattle.laws_apply.specs.MovedFits.{Outcome, overflowing, overweight, fitting, outcome, moved_fits}

-- 1. Records that are all applied

-- a fact of contents that one record hands on is handed on by all
module _ (capacity : ℕ) where
  pub applied-keep : (P : List Rec → Contents → Contents → Type 0)
      → ((c : Contents) → Fits capacity c → P [] c c)
      → ((r : Rec) (rs : List Rec) (c d : Contents) → Fits capacity c → P rs (moved r c) d → P (r ∷ rs) c d)
      → (rs : List Rec) (c d : Contents) → Fits capacity c → All Loggable rs → replay_records capacity rs c ≡ becomes d → P rs c d
  unfolding replay_records
  applied-keep P start turn [] c d fits ok e = let q : c ≡ d = cc in rw (← q) (start c fits)
  applied-keep P start turn (r ∷ rs) c d fits ok e = go (outcome capacity r c) e (λ x f. applied-keep P start turn rs x d f ok.1)
    where
      go : {a : Applied} → Outcome capacity r c a → on_applied a stays (replay_records capacity rs) ≡ becomes d
          → ((x : Contents) → Fits capacity x → replay_records capacity rs x ≡ becomes d → P rs x d) → P (r ∷ rs) c d
      go (overflowing h) q rest = impossible cc
      go (overweight h w) q rest = impossible cc
      go (fitting h w) q rest = turn r rs c d fits (rest (moved r c) (moved_fits capacity c fits r ok.0.0 ok.0.1 w) q)

  pub applied_fit : (rs : List Rec) (c d : Contents) → Fits capacity c → All Loggable rs → replay_records capacity rs c ≡ becomes d → Fits capacity d
  applied_fit = applied-keep (λ rs c d. Fits capacity d) (λ c fits. fits) (λ r rs c d fits i. i)

-- the last of some records that sets, before these a record that may set
pub last-before : {A : Type 0} (sets : Rec → Option A) (o : Option Rec) (t : Bool) (r : Rec) (x : Option A)
    → given o (cond t (sets r) x) sets ≡ given (or_else o (cond t (some r) none)) x sets
last-before sets none true r x = refl
last-before sets none false r x = refl
last-before sets (some s) t r x = refl

-- what contents show, where each record that passes a test sets it and every other leaves it
module _ {A : Type 0} (test : Rec → Bool) (sets : Rec → Option A) (shows : Contents → Option A)
    (turn : (r : Rec) (c : Contents) → Asc key c.real → shows (moved r c) ≡ cond (test r) (sets r) (shows c)) where
  pub last-stands : (capacity : ℕ) (rs : List Rec) (c d : Contents) → Fits capacity c → All Loggable rs → replay_records capacity rs c ≡ becomes d
      → shows d ≡ given (last_of test rs) (shows c) sets
  unfolding last_of
  last-stands capacity =
      applied-keep capacity (λ rs c d. shows d ≡ given (last_of test rs) (shows c) sets) (λ c fits. refl)
      (λ r rs c d fits i.
      i ∙ ap (λ x. given (last_of test rs) x sets) (turn r c (orderly c fits.orderly).ascends) ∙ last-before sets (last_of test rs) (test r) r (shows c))

-- 2. What Replay accepts: whole records, none of kind 26, which are all applied

-- not of kind 26
abbrev pub Inner : Rec → Type 0
Inner r = is_offset_rec r ≡ false

module _ (capacity : ℕ) where
  record Replays (i : Items) (c d : Contents) : Type 0 where
    whole : is_whole i ≡ true
    inner : All Inner (records i)
    applied : replay_records capacity (records i) c ≡ becomes d

  stopped_reply : (n place : ℕ) (c : Contents) {A : Type 0} → (stopped n place c).reply ≡ accepted [] → A
  stopped_reply n place c e = let q : ◌≡◌ {A = List ℕ} (place ∷ []) [] = ap (λ (r : Reply). r.values) e in impossible cc

  replays : (i : Items) (c : Contents) → (replay capacity i c).reply ≡ accepted [] → Replays i c (replay capacity i c).contents
  unfolding replay is_whole records replay_records
  replays end c e = record { whole = refl; inner = tt; applied = refl }
  replays (bad n place) c e = stopped_reply n place c e
  replays (item place r rest) c e = first (is_offset_rec r) refl e (replays rest)
    where
      next : Applied → Replayed
      next a = on_applied a (λ n. stopped n place c) (replay capacity rest)

      go : is_offset_rec r ≡ false → (a : Applied) → apply capacity r c ≡ a → (next a).reply ≡ accepted []
          → ((x : Contents) → (replay capacity rest x).reply ≡ accepted [] → Replays rest x (replay capacity rest x).contents)
          → Replays (item place r rest) c (next a).contents
      go o (stays n) f h i = stopped_reply n place c h
      go o (becomes x) f h i = let j = i x h in record { whole = j.whole; inner = (o, j.inner); applied = rw f j.applied }

      first : (t : Bool) → is_offset_rec r ≡ t → (cond t (stopped 22 place c) (next (apply capacity r c))).reply ≡ accepted []
          → ((x : Contents) → (replay capacity rest x).reply ≡ accepted [] → Replays rest x (replay capacity rest x).contents)
          → Replays (item place r rest) c (cond t (stopped 22 place c) (next (apply capacity r c))).contents
      first true o h i = stopped_reply 22 place c h
      first false o h i = go o (apply capacity r c) refl h i

  -- a run that Restore accepts: kind 26, and then such records, from the fresh contents at its offset
  abbrev begun : Rec → Contents
  begun r = dated (number (value 1 r.run)) fresh

  record Runs (i : Items) : Type 0 where
    head : Rec
    rest : List Rec
    are : records i ≡ head ∷ rest
    whole : is_whole i ≡ true
    offset : is_offset_rec head ≡ true
    inner : All Inner rest
    applied : replay_records capacity rest (begun head) ≡ becomes (replay_run capacity i).contents

  runs : (i : Items) → (replay_run capacity i).reply ≡ accepted [] → Runs i
  unfolding replay_run is_whole records
  runs end e = stopped_reply 22 0 fresh e
  runs (bad n place) e = stopped_reply n place fresh e
  runs (item place r rest) e = go (is_offset_rec r) refl e
    where
      end_of : Bool → Replayed
      end_of t = cond t (replay capacity rest (begun r)) (stopped 22 place fresh)

      go : (t : Bool) → is_offset_rec r ≡ t → (end_of t).reply ≡ accepted [] → Runs (item place r rest)
      go true o h =
          let j = replays rest (begun r) h in
          record { head = r; rest = records rest; are = refl; whole = j.whole; offset = o; inner = j.inner; applied = rw o j.applied }
      go false o h = stopped_reply 22 place fresh h

-- 3. What Restore accepts

loggable : (rs : List Rec) → AllPass framed rs → All Inner rs → AreBytes (joined record_bytes rs) → All Loggable rs
loggable [] ok inner h = tt
loggable (r ∷ rs) ok inner h =
    let here = left_are_bytes (record_bytes r) (joined record_bytes rs) h in
    let later_ones = right_are_bytes (record_bytes r) (joined record_bytes rs) h in
    let passes : fault logged r.kind r.run ≡ 0 = sym (framed_logged r.kind r.run inner.0) ∙ ok.0 in
    ((passes, fields_record logged r passes here), loggable rs ok.1 inner.1 later_ones)

record Laid (run b : Bytes) : Type 0 where
  within : is_capacity (length b) ≡ true
  accepts : (replay_run (length b) (items_of framed run)).reply ≡ accepted []
  buffer : (restore_of run b).buffer ≡ image_of (length b) (replay_run (length b) (items_of framed run)).contents

laid_out_lem : (run b : Bytes) → (restore_of run b).reply ≡ accepted [] → Laid run b
unfolding restore_of
laid_out_lem run b e = go (is_capacity (length b)) refl e
  where
    d : Replayed
    d = replay_run (length b) (items_of framed run)

    go : (t : Bool) → is_capacity (length b) ≡ t → (cond t (laid_out (length b) d) (unchanged 1 b)).reply ≡ accepted [] → Laid run b
    go true q h = record { within = q; accepts = h; buffer = unfold restore_of in rw q refl }
    go false q h = absurd (omega (arith, ap (λ (r : Reply). r.number) h))

-- the run's records, all of which pass, and the contents that they make
pub record Accepts (run b : Bytes) : Type 0 where
  pub head : Rec
  pub rest : List Rec
  pub are : records (items_of framed run) ≡ head ∷ rest
  pub whole : is_whole (items_of framed run) ≡ true
  pub offset : is_offset_rec head ≡ true
  pub inner : All Inner rest
  pub pass : AllPass framed (head ∷ rest)
  pub spelt : joined record_bytes (head ∷ rest) ≡ run
  pub begins : Fits (length b) (begun (length b) head)
  pub loggables : All Loggable rest
  pub contents : Contents
  pub applied : replay_records (length b) rest (begun (length b) head) ≡ becomes contents
  pub fits : Fits (length b) contents
  pub buffer : (restore_of run b).buffer ≡ image_of (length b) contents

pub accepting : (run b : Bytes) → AreBytes run → (restore_of run b).reply ≡ accepted [] → Accepts run b
accepting run b bytes_run e =
    let a = laid_out_lem run b e in
    let i = items_of framed run in
    let r = runs (length b) i a.accepts in
    let spells = spells-items framed run bytes_run r.whole in
    let pass : AllPass framed (r.head ∷ r.rest) = rw r.are at spells.pass in
    let spelt : joined record_bytes (r.head ∷ r.rest) ≡ run = ap (joined record_bytes) (sym r.are) ∙ spells.spelt in
    let all-bytes : AreBytes (record_bytes r.head ++ joined record_bytes r.rest) = rw spelt bytes_run in
    let ok = loggable r.rest pass.1 r.inner (right_are_bytes (record_bytes r.head) (joined record_bytes r.rest) all-bytes) in
    let n = number (value 1 r.head.run) in
    let begins = dated_fits (length b) n fresh (offset-held r.head r.offset pass.0) (fresh_fits (length b) a.within) in
    let d = (replay_run (length b) i).contents in
    record {
      head = r.head;
      rest = r.rest;
      are = r.are;
      whole = r.whole;
      offset = r.offset;
      inner = r.inner;
      pass = pass;
      spelt = spelt;
      begins = begins;
      loggables = ok;
      contents = d;
      applied = r.applied;
      fits = applied_fit (length b) r.rest (dated n fresh) d begins ok r.applied;
      buffer = a.buffer;
    }

-- kind 26 sets nothing
module _ (test : Rec → Bool) (no_offset : (r : Rec) → is_offset_rec r ≡ true → test r ≡ false) where
  pub offset_skipped : (r : Rec) (rs : List Rec) → is_offset_rec r ≡ true → last_of test (r ∷ rs) ≡ last_of test rs
  unfolding last_of
  offset_skipped r rs o = rw (no_offset r o) (go (last_of test rs))
    where
      go : (x : Option Rec) → or_else x none ≡ x
      go none = refl
      go (some y) = refl

  -- the last record that sets what the restored contents show; the fresh ones show nothing
  module _ {A : Type 0} (sets : Rec → Option A) (shows : Contents → Option A)
      (turn : (r : Rec) (c : Contents) → Asc key c.real → shows (moved r c) ≡ cond (test r) (sets r) (shows c))
      (nothing : (n : ℕ) → shows (dated n fresh) ≡ none) where
    pub accepted-last : {run b : Bytes} (a : Accepts run b) → shows a.contents ≡ given (last_of test (records (items_of framed run))) none sets
    accepted-last {run} {b} a =
        last-stands test sets shows turn (length b) a.rest (begun (length b) a.head) a.contents a.begins a.loggables a.applied
        ∙ ap (λ x. given (last_of test a.rest) x sets) (nothing (number (value 1 a.head.run)))
        ∙ ap (λ x. given x none sets) (sym (ap (last_of test) a.are ∙ offset_skipped a.head a.rest a.offset))
