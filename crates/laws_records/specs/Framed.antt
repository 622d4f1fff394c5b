-- Records of a snapshot: kind 26, and behind it records of the log.
use Rattle.std.specs.Prelude.{◌≡◌, refl, Bool, true, false, cond, List, [], ◌∷◌, ℕ, ◌+◌, ◌*◌, eqb, ltb, length, get_or, take}
use Rattle.std.proofs.Common.{sym, ap, ◌∙◌, arith, eq-eqb, ne_eqb, get_or-take}
use Rattle.std.proofs.Math.Option.{Option, none, some}
use Rattle.model.specs.Choice.{given}
use Rattle.model.specs.Number.{Bytes, AreBytes}
use Rattle.model.specs.Run.{Run, run_of}
use Rattle.model.specs.Kind.{kind_of, kind_number}
use Rattle.model.specs.Shape.{Source, logged, framed, fault}
use Rattle.model.specs.Record.{Rec, rec, record_bytes, bad, got, read, whole}
use Rattle.model.specs.Snapshot.{is_offset_rec}
use Rattle.model.specs.declared.Kind.{Kind}
use Rattle.laws.specs.Choice.{impossible}
use Rattle.laws.specs.Lists.{all_imp}
use Rattle.laws_records.specs.Kinds.{number_kind}
use Rattle.laws_records.specs.Faults.{fault-known}
use Rattle.laws_records.specs.Records.{reads}
use Rattle.laws_records.specs.Stored.{logged_framed, framed_logged}
use Rattle.laws_records.specs.Items.{AllPass}

-- 1. What the log knows, a snapshot knows; kind 26 it does not

pub logged_no_offset : (r : Rec) → fault logged r.kind r.run ≡ 0 → is_offset_rec r ≡ false
logged_no_offset r ok = go (is_offset_rec r) (fault-known logged r.kind r.run ok)
  where
    go : (b : Bool) → ◌≡◌ {A = ℕ} (cond b 3 0) 0 → b ≡ false
    go true h = absurd (omega arith)
    go false h = refl

pub framed_pass : (rs : List Rec) → AllPass logged rs → AllPass framed rs
framed_pass rs ok =
    all_imp (λ (r : Rec). fault logged r.kind r.run ≡ 0) (λ (r : Rec). fault framed r.kind r.run ≡ 0)
    (λ r p. logged_framed r.kind r.run p) rs ok

module _ (run : Run) (used : ℕ) where
  kind_got : (kind : Kind) (r : Rec) (n : ℕ) → whole (fault logged kind run) (rec kind run) used ≡ got r n
      → whole (fault framed kind run) (rec kind run) used ≡ got r n
  kind_got kind r n e = go (eqb (kind_number kind) 26) refl
    where
      go : (b : Bool) → eqb (kind_number kind) 26 ≡ b → whole (fault framed kind run) (rec kind run) used ≡ got r n
      go true h = let q = rw h at e in impossible cc
      go false h = rw (framed_logged kind run h) e

  opened_got : (b : Bool) (o : Option Kind) (r : Rec) (n : ℕ)
      → cond b (bad 2) (given o (bad 3) (λ kind. whole (fault logged kind run) (rec kind run) used)) ≡ got r n
      → cond b (bad 2) (given o (bad 3) (λ kind. whole (fault framed kind run) (rec kind run) used)) ≡ got r n
  opened_got true o r n e = impossible cc
  opened_got false none r n e = impossible cc
  opened_got false (some kind) r n e = kind_got kind r n e

  opened-same : (b : Bool) (k : ℕ) (o : Option Kind) → kind_of k ≡ o → (k ≡ 26 → ⊥)
      → cond b (bad 2) (given o (bad 3) (λ kind. whole (fault framed kind run) (rec kind run) used))
      ≡ cond b (bad 2) (given o (bad 3) (λ kind. whole (fault logged kind run) (rec kind run) used))
  opened-same true k o e h = refl
  opened-same false k none e h = refl
  opened-same false k (some kind) e h =
      rw (framed_logged kind run (ne_eqb (kind_number kind) 26 (λ q. h (sym (number_kind k kind e) ∙ q))))

pub framed_got : (s : Bytes) (r : Rec) (n : ℕ) → read logged s ≡ got r n → read framed s ≡ got r n
unfolding read
framed_got [] r n e = impossible cc
framed_got (k ∷ []) r n e = impossible cc
framed_got (k ∷ h ∷ []) r n e = impossible cc
framed_got (k ∷ h ∷ l ∷ s) r n e =
    opened_got (run_of (take (h * 256 + l) s)) (3 + (h * 256 + l)) (ltb (length s) (h * 256 + l)) (kind_of k) r n e

pub same_read : (s : Bytes) → (get_or s 0 0 ≡ 26 → ⊥) → read framed s ≡ read logged s
unfolding read
same_read [] d = refl
same_read (k ∷ []) d = refl
same_read (k ∷ h ∷ []) d = refl
same_read (k ∷ h ∷ l ∷ s) d =
    opened-same (run_of (take (h * 256 + l) s)) (3 + (h * 256 + l)) (ltb (length s) (h * 256 + l)) k (kind_of k) refl d

-- 2. The kind of what is read

first_byte : (r : Rec) → get_or (record_bytes r) 0 0 ≡ kind_number r.kind
unfolding record_bytes
first_byte r = refl

module _ (source : Source) (s : Bytes) (are : AreBytes s) (r : Rec) (n : ℕ) (e : read source s ≡ got r n) where
  kind_read : get_or s 0 0 ≡ kind_number r.kind
  kind_read =
      let d = reads source s r n e in
      sym (get_or-take n s 0 0 (omega (arith, d.head))) ∙ ap (λ x. get_or x 0 0) (d.spelt are) ∙ first_byte r

  pub offset_read : get_or s 0 0 ≡ 26 → is_offset_rec r ≡ true
  offset_read h = eq-eqb (kind_number r.kind) 26 (sym kind_read ∙ h)

  pub no_offset-read : (get_or s 0 0 ≡ 26 → ⊥) → is_offset_rec r ≡ false
  no_offset-read h = ne_eqb (kind_number r.kind) 26 (λ q. h (kind_read ∙ q))
