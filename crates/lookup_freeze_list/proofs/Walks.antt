-- The walk of a pass: what the entries to come make of the output, and how many of them are read, is what all of them make of the first.
use mathlib.Core.Path.{◌≡◌, refl, sym, ap, ◌∙◌, subst}
use mathlib.Core.Bool.{Bool, true, false, not}
use mathlib.Core.List.{List, [], ◌∷◌, map}
use mathlib.Core.Option.{none, some}
use Prim.Native.Nat.{Ordering}
use Prim.Native.Nat.{ℕ, suc, ◌+◌, ◌-◌, ◌*◌, ◌≤◌, ◌<◌}
use native.Mathlib.Omega.{arith}
use borrow.Author.Tests.{not-true, not-false}
use lib.ListN.{length, take, drop, get_or}
use Rattle.model.specs.Number.{Bytes}
use Rattle.model.specs.Order.{compare_bytes, same_bytes, is_below}
use Rattle.model.specs.Key.{key_name, key_scope}
use Rattle.model.specs.Contents.{Entry, key}
use Rattle.model.specs.Image.{entry_of}
use Rattle.model.specs.FreezeList.{job_limit, is_freeze, last_name}
use Rattle.laws.specs.Choice.{and_both}
use Rattle.laws.specs.Lists.{All, all_any, all_imp, every_true}
use Rattle.laws.specs.Map.{Asc}
use Rattle.laws.specs.Order.{Lt, bytes-total, is_below_true, lt≢gt, lt_gt}
use Rattle.laws_freezes.specs.Freezes.{read_walk, of_pattern, scopes_rise}
use Rattle.laws_freezes.specs.Unread.{listed-rising, up_to-last, not_below}
use Rattle.entries.specs.Entries.{Entries}
use Rattle.entries.specs.Held.{entries_in}
use Rattle.entries.specs.declared.Cursor.{Cursor}
use Rattle.entries.proofs.Turns.{Stands}
use Rattle.image_entries.proofs.Turns.{next-at, past_end}
use Rattle.name_marks.specs.declared.Window.{Window}
use Rattle.name_marks.specs.Marks.{fits_name, Accepted, jobs, Behind}
use Rattle.name_marks.specs.Laws.{behind-start, behind-later}
use Rattle.name_marks.proofs.Written.{marked-length}
use Rattle.lookup_freeze_list.specs.Passes.{pattern_of, pattern_in, scope_in, passed, ScopeAs}
use Rattle.lookup_freeze_list.specs.declared.Scope.TheVariants.{Above, From}
use Rattle.lookup_freeze_list.proofs.Stored.{no_freeze_lem, is_freeze_lem, pattern_is, scope_is}
use Rattle.lookup_freeze_list.proofs.Passes.{passed_other, read_other, passed_skip, read_skip, passed-mark, read_on, passed_stop}

-- a window is good for a freeze that is read
abbrev Ahead : Bool → Bytes → Window → Entry → Type 0
Ahead isLiteral list window e = of_pattern (pattern_of isLiteral) (key e) ≡ true → Behind list window (key_scope (key e))

-- an entry has three bytes or more
pub record Passing (isLiteral : Bool) (s list last out w : Bytes) (at index read : ℕ) (window : Window) : Type 0 where
  pub entries : Entries (drop at s)
  pub ascends : Asc key (entries_in (drop at s))
  pub few : 3 * index ≤ at
  pub seldom : 3 * read ≤ at
  pub most : at ≤ length s
  pub size : length w ≡ length out
  pub marks : passed isLiteral (jobs list) index (entries_in (drop at s)) w ≡ passed isLiteral (jobs list) 0 (entries_in s) out
  pub reads : read + read_walk (pattern_of isLiteral) last (entries_in (drop at s)) ≡ read_walk (pattern_of isLiteral) last (entries_in s)
  pub ahead : All (Ahead isLiteral list window) (entries_in (drop at s))

pub passing-start : (isLiteral : Bool) (s list last out : Bytes) → Entries s → Asc key (entries_in s) → Accepted list
    → Passing isLiteral s list last out out 0 0 0 (record { at = 0; n = 0 })
passing-start isLiteral s list last out e a ok = record {
  entries = e;
  ascends = a;
  few = omega arith;
  seldom = omega arith;
  most = omega arith;
  size = refl;
  marks = refl;
  reads = omega arith;
  ahead = all_any (Ahead isLiteral list (record { at = 0; n = 0 })) (λ x q. behind-start list (key_scope (key x)) ok) (entries_in s);
}

-- no name of a list is above its last
names_low : (list last : Bytes) → Accepted list → last_name (jobs list) ≡ some last → All (λ n. (compare_bytes last n ≡ Ordering.lt → ⊥)) (jobs list)
names_low list last ok is =
    all_imp (λ n. not (is_below (compare_bytes last n)) ≡ true) (λ n. (compare_bytes last n ≡ Ordering.lt → ⊥)) (λ n h. not_below (compare_bytes last n) h) (jobs list)
    (every_true (λ n. not (is_below (compare_bytes last n))) (jobs list) (up_to-last none last (jobs list) (listed-rising job_limit none 0 list ok) is))

-- what a pass ends with
abbrev pub Ends : Bool → Bytes → Bytes → Bytes → Bytes → Bytes → ℕ → Type 0
Ends isLiteral s list last out v read =
    ((read ≡ read_walk (pattern_of isLiteral) last (entries_in s)) × (3 * read ≤ length s)) × (v ≡ passed isLiteral (jobs list) 0 (entries_in s) out)

module _ {isLiteral : Bool} {s list last out w : Bytes} {at index read : ℕ} {window : Window} (h : Passing isLiteral s list last out w at index read window) where
  pub passing-all : length s ≤ at → Ends isLiteral s list last out w read
  unfolding read_walk passed
  passing-all past =
      let none : entries_in (drop at s) ≡ [] = ap (map entry_of) (past_end s at past) in (
        (omega (arith, h.reads, ap (read_walk (pattern_of isLiteral) last) none), omega (arith, h.seldom, h.most)),
        sym (ap (λ l. passed isLiteral (jobs list) index l w) none) ∙ h.marks,
      )

  module _ {start end : ℕ} {next : Cursor} (t : Stands s at start end next) where
    pub room : (index < length s) × (read < length s)
    room = (omega (arith, h.few, t.entry.fits), omega (arith, h.seldom, t.entry.fits))

    abbrev here : Entry
    here = entry_of t.entry.entry

    abbrev rest : List Entry
    rest = entries_in (drop next.at s)

    split : entries_in (drop at s) ≡ here ∷ rest
    split = ap (map entry_of) t.entry.list ∙ ap (λ n. here ∷ entries_in (drop n s)) (sym (next-at t))

    ascend : Asc key (here ∷ rest)
    ascend = subst (λ l. Asc key l) split h.ascends

    onward : All (Ahead isLiteral list window) (here ∷ rest)
    onward = subst (λ l. All (Ahead isLiteral list window) l) split h.ahead

    marks_here : passed isLiteral (jobs list) index (here ∷ rest) w ≡ passed isLiteral (jobs list) 0 (entries_in s) out
    marks_here = ap (λ l. passed isLiteral (jobs list) index l w) (sym split) ∙ h.marks

    reads_here : read + read_walk (pattern_of isLiteral) last (here ∷ rest) ≡ read_walk (pattern_of isLiteral) last (entries_in s)
    reads_here = ap (λ l. read + read_walk (pattern_of isLiteral) last l) (sym split) ∙ h.reads

    moved : {v : Bytes} {i r : ℕ} {to : Window} → i ≤ index + 1 → r ≤ read + 1 → length v ≡ length out
        → passed isLiteral (jobs list) i rest v ≡ passed isLiteral (jobs list) 0 (entries_in s) out
        → r + read_walk (pattern_of isLiteral) last rest ≡ read_walk (pattern_of isLiteral) last (entries_in s)
        → All (Ahead isLiteral list to) rest → Passing isLiteral s list last out v next.at i r to
    moved fi fr z m r a = record {
      entries = subst (λ n. Entries (drop n s)) (sym (next-at t)) t.entry.rest;
      ascends = ascend.1;
      few = omega (arith, fi, h.few, next-at t);
      seldom = omega (arith, fr, h.seldom, next-at t);
      most = omega (arith, t.entry.fits, next-at t);
      size = z;
      marks = m;
      reads = r;
      ahead = a;
    }

    -- 1. No freeze
    pub passing_other : (get_or s start 0 ≡ 18 → ⊥) → Passing isLiteral s list last out w next.at index read window
    passing_other other =
        let f = no_freeze_lem t other in
        moved (omega arith) (omega arith) h.size (sym (passed_other isLiteral (jobs list) here rest f index w) ∙ marks_here)
        (ap (λ n. read + n) (sym (read_other isLiteral (jobs list) here rest f last)) ∙ reads_here) onward.1

    module _ (is : get_or s start 0 ≡ 18) {b : Bool} (e : b ≡ same_bytes (pattern_in (take (end - start) (drop start s))) (pattern_of isLiteral)) where
      tested : b ≡ same_bytes (key_name (key here)) (pattern_of isLiteral)
      tested = e ∙ ap (λ p. same_bytes p (pattern_of isLiteral)) (pattern_is t is)

      -- 2. A freeze of the other pattern
      pub passing_skip : not b ≡ true → Passing isLiteral s list last out w next.at (index + 1) read window
      passing_skip n =
          let f = is_freeze_lem t is in
          let p = sym tested ∙ not-true b n in
          moved (omega arith) (omega arith) h.size (sym (passed_skip isLiteral (jobs list) here rest f p index w) ∙ marks_here)
          (ap (λ n. read + n) (sym (read_skip isLiteral (jobs list) here rest f p last)) ∙ reads_here) onward.1

      -- 3. A freeze that is read
      module _ (n : not b ≡ false) where
        same-pattern : same_bytes (key_name (key here)) (pattern_of isLiteral) ≡ true
        same-pattern = sym tested ∙ not-false b n

        of_pattern_lem : of_pattern (pattern_of isLiteral) (key here) ≡ true
        of_pattern_lem = and_both (is_freeze (key here)) (same_bytes (key_name (key here)) (pattern_of isLiteral)) (is_freeze_lem t is) same-pattern

        pub behind-here : Behind list window (scope_in (take (end - start) (drop start s)))
        behind-here = subst (λ x. Behind list window x) (sym (scope_is t is)) (onward.0 of_pattern_lem)

        -- later scopes are not below it
        later : (to : Window) → Behind list to (key_scope (key here)) → (y : Entry) → Lt (key here) (key y) → Ahead isLiteral list to y
        later to at_here y less q =
            let up = scopes_rise (pattern_of isLiteral) here y of_pattern_lem q less in
            behind-later list to (key_scope (key here)) (key_scope (key y)) (λ d. lt≢gt (sym d ∙ lt_gt bytes-total (key_scope (key here)) (key_scope (key y)) up)) at_here

        module _ {v : Bytes} where
          pub passing_on : {to : Window} → ScopeAs list last (scope_in (take (end - start) (drop start s))) isLiteral index w v (From to)
              → Passing isLiteral s list last out v next.at (index + 1) (read + 1) to
          passing_on {to} u =
              let r = subst (λ x. ScopeAs list last x isLiteral index w v (From to)) (scope_is t is) u in
              let f = is_freeze_lem t is in
              let count : read_walk (pattern_of isLiteral) last (here ∷ rest) ≡ suc (read_walk (pattern_of isLiteral) last rest) =
              read_on isLiteral (jobs list) here rest f same-pattern last r.0 in
              moved (omega arith) (omega arith)
              (ap length r.1 ∙ marked-length (fits_name isLiteral (key_scope (key here))) index (jobs list) w ∙ h.size)
              (ap (passed isLiteral (jobs list) (index + 1) rest) r.1 ∙ sym (passed-mark isLiteral (jobs list) here rest f same-pattern index w) ∙ marks_here)
              (omega (arith, count, reads_here))
              (all_imp (λ y. Lt (key here) (key y)) (Ahead isLiteral list to) (later to r.2) rest ascend.0)

          pub passing_stop : Accepted list → last_name (jobs list) ≡ some last
              → ScopeAs list last (scope_in (take (end - start) (drop start s))) isLiteral index w v Above → Ends isLiteral s list last out v (read + 1)
          passing_stop ok names u =
              let r = subst (λ x. ScopeAs list last x isLiteral index w v Above) (scope_is t is) u in
              let count : read_walk (pattern_of isLiteral) last (here ∷ rest) ≡ 1 =
              read_on isLiteral (jobs list) here rest (is_freeze_lem t is) same-pattern last r.0 in
              let above = is_below_true (compare_bytes last (key_scope (key here))) r.0 in (
                (omega (arith, count, reads_here), omega (arith, h.seldom, t.entry.fits)),
                r.1
                    ∙ sym (passed_stop isLiteral (jobs list) last (names_low list last ok names) here rest of_pattern_lem above ascend.0 index w)
                    ∙ marks_here,
              )
