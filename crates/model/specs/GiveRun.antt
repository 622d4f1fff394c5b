-- Many records in one call: a run of records, given one after the other as a history's record steps, on an image that is tested once.
use Rattle.std.specs.Prelude.{ℕ, zero, suc, ◌+◌, ◌-◌, ◌%◌, cond, ◌&&◌, List, [], ◌∷◌, ◌++◌, map, leb, length, take, drop}
use Rattle.std.proofs.Math.Option.{none, some}
use Rattle.std.proofs.Math.Seq.{slice}
use Rattle.model.specs.Number.{Bytes, number, span}
use Rattle.model.specs.Image.{is_image}
use Rattle.model.specs.Reply.{Reply, accepted, refused}
use Rattle.model.specs.History.{Step, give, Answer, verdict, said, wrote, run, reached}

-- 1. The pieces of a run: what each step is given

-- a record's bytes by its header: its three, and the body's
abbrev pub size_by_header : Bytes → ℕ
size_by_header s = 3 + number (slice 1 3 s)

-- how many of some bytes the first step is given: as many as the header says, or all where the header is not whole or says more
unfoldable pub piece_size : Bytes → ℕ
piece_size s = cond (leb 3 (length s) && leb (size_by_header s) (length s)) (size_by_header s) (length s)

-- the pieces one behind the other; `skip` of the bytes are still of the piece before
unfoldable pub pieces_from : ℕ → Bytes → List Bytes
pieces_from skip [] = []
pieces_from zero (b ∷ s) = take (piece_size (b ∷ s)) (b ∷ s) ∷ pieces_from (piece_size (b ∷ s) - 1) s
pieces_from (suc skip) (b ∷ s) = pieces_from skip s

abbrev pub pieces : Bytes → List Bytes
pieces s = pieces_from 0 s

-- 2. The steps: each piece is given at the log offset behind the one before

abbrev pub next_offset : ℕ → ℕ
next_offset offset = (offset + 1) % span 8

unfoldable pub gives_from : ℕ → List Bytes → List Step
gives_from offset [] = []
gives_from offset (p ∷ ps) = give offset p ∷ gives_from (next_offset offset) ps

-- a record step's verdict in one number: Validate's and, where that is 0, Apply's
abbrev pub verdict_number : Answer → ℕ
verdict_number (verdict v none) = v.number
verdict_number (verdict v (some a)) = a.number
verdict_number (said r) = r.number
verdict_number (wrote e) = e.reply.number

-- 3. The operation

pub record GivenRun : Type 0 where
  pub reply : Reply
  pub image : Bytes
  pub out : Bytes

-- a refusal changes nothing: 1, no image; 19, fewer bytes in the output than there are pieces. Else how many pieces there are, a byte with the verdict of
-- each at the output's start, and the image that the steps reach
unfoldable pub give_run_of : Bytes → ℕ → Bytes → Bytes → GivenRun
give_run_of image offset input out =
    let count = length (pieces input) in
    let steps = gives_from offset (pieces input) in
    cond (is_image image)
    (cond (leb count (length out))
    (record { reply = accepted (count ∷ []); image = reached steps image; out = map verdict_number (run steps image) ++ drop count out })
    (record { reply = refused 19; image = image; out = out }))
    (record { reply = refused 1; image = image; out = out })
