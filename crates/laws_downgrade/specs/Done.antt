-- Request 9, on images: a pass of the listed records, with rising offsets, leaves nothing to list, moves brokers and partitions alone, and only
-- room stops it.
use Rattle.std.specs.Prelude.{◌≡◌, refl, List, [], ◌∷◌, ◌++◌, map, Bool, true, false, cond, ℕ, ◌<◌, eqb, length}
use Rattle.std.proofs.Math.Path.{sym, ap}
use Rattle.std.proofs.Common.{◌∙◌, append-nil, arith}
use Rattle.std.proofs.Math.Option.{none, some}
use borrow.Author.Tests.{eqb-true, le-leb}
use Rattle.model.specs.Choice.{joined}
use Rattle.model.specs.Number.{Bytes, AreBytes, span}
use Rattle.model.specs.Shape.{logged, framed, fault}
use Rattle.model.specs.Reply.{Ended, unchanged, accepted, refused, emit_bytes}
use Rattle.model.specs.Snapshot.{emit}
use Rattle.model.specs.Record.{Rec, record_bytes, read, got}
use Rattle.model.specs.Contents.{Fixed, Contents, dated, key}
use Rattle.model.specs.Map.{keep}
use Rattle.model.specs.Image.{is_image, contents_of}
use Rattle.model.specs.Move.{moved}
use Rattle.model.specs.Validate.{validate_of}
use Rattle.model.specs.Apply.{Applied, stays, becomes, apply, dated_by, is_later, apply_at, laid, apply_of}
use Rattle.model.specs.Downgrade.{listed, downgrade, downgrade_of, applied_all, AreOffsets, last_offset, UnderWay, lowered, is_other}
use Rattle.model.specs.Downgrade.{DowngradeDone, DowngradeKeeps, ListedAdmitted, OnlyRoomRefuses, ListingReadsBack, NothingWrittenAfter}
use Rattle.laws.specs.Choice.{impossible, true_false}
use Rattle.laws.specs.Lists.{All, all_imp, all-append-left, all-append_right}
use Rattle.laws_records.specs.Items.{records-items}
use Rattle.laws_records.specs.Records.{read_record, bytes_record}
use Rattle.laws_records.specs.Stored.{logged_framed}
use Rattle.laws_image.specs.Fits.{Proper}
use Rattle.laws_image.specs.Orderly.{orderly}
use Rattle.laws_image.specs.Exact.{image_fits}
use Rattle.laws_apply.specs.Moves.{moved-dated}
use Rattle.laws_apply.specs.MovedFits.{Outcome, overflowing, overweight, fitting, outcome, contents_after}
use Rattle.laws_apply.specs.Apply.{refusal_number, apply-read, apply_contents, apply_image}
use Rattle.laws_downgrade.specs.Changed.{with_real, moved_all}
use Rattle.laws_downgrade.specs.Pass.{EntryReads, pass, silent_all}
use Rattle.laws_downgrade.specs.Rest.{SameRest, rest_self, rest_then}
use Rattle.laws_downgrade.specs.Listed.{entry_reads, Passes, all_pass}

-- 1. One listed record on an image

-- an image of the same capacity with these contents
pub record Follows (image after : Bytes) (c : Contents) : Type 0 where
  pub is : is_image after ≡ true
  pub are_bytes : AreBytes after
  pub long : length after ≡ length image
  pub contents : contents_of after ≡ c

module _ (r : Rec) (p : Passes r) (image : Bytes) (is : is_image image ≡ true) where
  reads : (used : ℕ) × (read logged (record_bytes r) ≡ got r used)
  reads = (_, ap (read logged) (sym (append-nil (record_bytes r))) ∙ read_record logged r [] p.ok)

  one-admitted : validate_of image (record_bytes r) ≡ accepted []
  unfolding validate_of
  one-admitted = rw (is, reads.1) (ap refused (p.admitted (contents_of image).real))

  module _ (offset : ℕ) where
    abbrev end : Ended
    end = apply_of image offset (record_bytes r)

    abbrev later : Bool
    later = is_later (contents_of image).fixed.offset offset

    -- a refusal is 21, where the offset is not above the stored one, or 18, and leaves the image
    one-refused : eqb end.reply.number 0 ≡ false → end ≡ unchanged (cond later 18 21) image
    unfolding apply_at
    one-refused said = let e = apply-read image offset (record_bytes r) is r reads.0 reads.1 in e ∙ go later (rw e at said)
      where
        c : Contents
        c = contents_of image

        one : (a : Applied) → Outcome (length image) r c a → eqb (laid image (dated_by offset a)).reply.number 0 ≡ false → laid image (dated_by offset a) ≡ unchanged 18 image
        one (stays n) (overflowing o) said = absurd (true_false o (p.still c.real))
        one (stays n) (overweight o w) said = refl
        one (becomes d) (fitting o w) said = absurd (true_false refl said)

        at : Bool → Applied
        at t = cond t (dated_by offset (apply (length image) r c)) (stays 21)

        go : (t : Bool) → eqb (laid image (at t)).reply.number 0 ≡ false → laid image (at t) ≡ unchanged (cond t 18 21) image
        go true said = one (apply (length image) r c) (outcome (length image) r c) said
        go false said = refl

    module _ (are_bytes : AreBytes image) (wide : offset < span 8) where
      given : AreBytes (record_bytes r)
      given = bytes_record r p.fields

      one-applied : eqb end.reply.number 0 ≡ true → Follows image end.buffer (dated offset (moved r (contents_of image)))
      unfolding apply_at
      one-applied said =
          let kept = apply_image image offset (record_bytes r) are_bytes is given wide in
          let says = apply_contents image offset (record_bytes r) are_bytes is given wide r reads.0 reads.1 in
          let number : refusal_number (apply_at (length image) offset r c) ≡ 0 = sym (ap (λ x. x.number) says.reply) ∙ eqb-true end.reply.number 0 said in
          record {
            is = kept.0;
            are_bytes = kept.1;
            long = kept.2;
            contents = says.contents ∙ go later number;
          }
        where
          c : Contents
          c = contents_of image

          after : (a : Applied) → Outcome (length image) r c a → refusal_number (dated_by offset a) ≡ 0 → contents_after c (dated_by offset a) ≡ dated offset (moved r c)
          after (stays n) (overflowing e) z = impossible (omega arith)
          after (stays n) (overweight e w) z = impossible (omega arith)
          after (becomes d) (fitting e w) z = refl

          at : Bool → Applied
          at t = cond t (dated_by offset (apply (length image) r c)) (stays 21)

          go : (t : Bool) → refusal_number (at t) ≡ 0 → contents_after c (at t) ≡ dated offset (moved r c)
          go true z = after (apply (length image) r c) (outcome (length image) r c) z
          go false z = impossible (omega arith)

-- 2. Several, one after the other

moved_all-dated : (n : ℕ) (rs : List Rec) (c : Contents) → moved_all rs (dated n c) ≡ dated n (moved_all rs c)
unfolding moved_all
moved_all-dated n [] c = refl
moved_all-dated n (r ∷ rs) c = ap (moved_all rs) (moved-dated n r c) ∙ moved_all-dated n rs (moved r c)

-- all of them applied, at the last one's offset
abbrev passed : List ℕ → List Rec → Contents → Contents
passed ns rs c = dated (last_offset c.fixed.offset ns) (moved_all rs c)

all-applied : (ns : List ℕ) → AreOffsets ns → (rs : List Rec) → All Passes rs → (image after : Bytes) → AreBytes image → is_image image ≡ true
    → applied_all ns rs image ≡ some after → Follows image after (passed ns rs (contents_of image))
unfolding applied_all moved_all last_offset
all-applied [] os [] ps image after b is e =
    let same : image ≡ after = cc in
    rw (← same) (record { is = is; are_bytes = b; long = refl; contents = refl })
all-applied [] os (r ∷ rs) ps image after b is e = impossible cc
all-applied (n ∷ ns) os [] ps image after b is e = impossible cc
all-applied (n ∷ ns) os (r ∷ rs) ps image after b is e =
    go (eqb (apply_of image n (record_bytes r)).reply.number 0) refl e (λ x. all-applied ns os.1 rs ps.1 x after)
  where
    next : Bytes
    next = (apply_of image n (record_bytes r)).buffer

    go : (z : Bool) → eqb (apply_of image n (record_bytes r)).reply.number 0 ≡ z → cond z (applied_all ns rs next) none ≡ some after
        → ((x : Bytes) → AreBytes x → is_image x ≡ true → applied_all ns rs x ≡ some after → Follows x after (passed ns rs (contents_of x)))
        → Follows image after (dated (last_offset n ns) (moved_all rs (moved r (contents_of image))))
    go false z q ih = impossible cc
    go true z q ih =
        let one = one-applied r ps.0 image is n b os.0 z in
        let rest = ih next one.are_bytes one.is q in
        record {
          is = rest.is;
          are_bytes = rest.are_bytes;
          long = rest.long ∙ one.long;
          contents =
              rest.contents ∙ ap (passed ns rs) one.contents
              ∙ ap (dated (last_offset n ns)) (moved_all-dated n rs (moved r (contents_of image)));
        }

all_rest : (rs : List Rec) → All Passes rs → (c : Contents) → SameRest c (moved_all rs c)
unfolding moved_all
all_rest [] ps c = rest_self c
all_rest (r ∷ rs) ps c = rest_then (ps.0.rest c) (all_rest rs ps.1 (moved r c))

-- 3. The listing of an image

module _ (level : ℕ) (image : Bytes) (b : AreBytes image) (is : is_image image ≡ true) where
  abbrev listing : List Rec
  listing = downgrade level (contents_of image)

  passes : All Passes listing
  passes = all_pass level (contents_of image) (image_fits image b is).entries

  -- a pass under way is at an image whose rest is as it was
  module _ {offsets : List ℕ} {reached : Bytes} {left : List Rec} (u : UnderWay level image offsets reached left) where
    split : All Passes (u.given ++ left)
    split = rw u.listing at passes

    given_passes : All Passes u.given
    given_passes = all-append-left Passes u.given left split

    at : Follows image reached (passed offsets u.given (contents_of image))
    at = all-applied offsets u.are_offsets u.given given_passes image reached b is u.applied

    same_rest : SameRest (contents_of image) (moved_all u.given (contents_of image))
    same_rest = all_rest u.given given_passes (contents_of image)

    left_passes : All Passes left
    left_passes = all-append_right Passes u.given left split

  -- at its end it is at the lowered contents, and nothing is listed
  followed : (after : Bytes) (offsets : List ℕ) → AreOffsets offsets → applied_all offsets listing image ≡ some after
      → Follows image after (dated (last_offset (contents_of image).fixed.offset offsets) (with_real (contents_of image) (map (lowered level) (contents_of image).real)))
  followed after offsets os e =
      let c = contents_of image in
      let n = last_offset c.fixed.offset offsets in
      let fits = image_fits image b is in
      let f = all-applied offsets os listing passes image after b is e in
      let reads = all_imp Proper EntryReads entry_reads c.real fits.entries in
      record {
        is = f.is;
        are_bytes = f.are_bytes;
        long = f.long;
        contents = f.contents ∙ ap (dated n) (pass level c reads (orderly c fits.orderly).ascends);
      }

  none_left : (after : Bytes) (offsets : List ℕ) → AreOffsets offsets → applied_all offsets listing image ≡ some after → downgrade level (contents_of after) ≡ []
  unfolding downgrade
  none_left after offsets os e = ap (λ d. joined (listed level) d.real) (followed after offsets os e).contents ∙ silent_all level (contents_of image).real

-- 4. The claims

pub downgrade_done : DowngradeDone
downgrade_done level image after offsets b is os e =
    let f = followed level image b is after offsets os e in
    (none_left level image b is after offsets os e, f.is, f.long, f.contents)

pub downgrade_keeps : DowngradeKeeps
downgrade_keeps level image reached offsets left b is u =
    let f = at level image b is u in
    let s = same_rest level image b is u in
    let n = last_offset (contents_of image).fixed.offset offsets in
    let dates : Fixed → Fixed = λ g. record { epoch = g.epoch; kraft = g.kraft; offset = n } in
    let others = ap (λ d. keep key is_other d.real) f.contents ∙ s.others in
    (f.is, f.long, others, ap (λ d. d.empties) f.contents ∙ s.empties, ap (λ d. d.fixed) f.contents ∙ ap dates s.fixed)

pub listed-admitted : ListedAdmitted
listed-admitted level image reached offsets r left b is u = one-admitted r (left_passes level image b is u).0 reached (at level image b is u).is

pub only_room_refuses : OnlyRoomRefuses
only_room_refuses level image reached offsets r left offset b is u said =
    one-refused r (left_passes level image b is u).0 reached (at level image b is u).is offset said

pub listing_reads_back : ListingReadsBack
unfolding downgrade_of emit
listing_reads_back level image out b is =
    let rs = downgrade level (contents_of image) in
    let pass = all_imp Passes (λ r. fault framed r.kind r.run ≡ 0) (λ r p. logged_framed r.kind r.run p.ok) rs (passes level image b is) in
    let back = records-items framed rs pass in
    (rw is, back.0, back.1)

pub nothing_written-after : NothingWrittenAfter
unfolding downgrade_of emit emit_bytes
nothing_written-after level image after offsets out b is os e =
    rw ((followed level image b is after offsets os e).is, none_left level image b is after offsets os e, le-leb 0 (length out) (omega arith))
