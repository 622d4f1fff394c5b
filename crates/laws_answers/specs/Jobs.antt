-- The bytes written for a list of jobs are below 2^32, whatever the operation is given.
use Rattle.std.specs.Prelude.{Bool, true, false, cond, List, [], ◌∷◌, ◌++◌, ℕ, zero, suc, ◌<◌, leb, length, drop}
use Rattle.std.proofs.Math.Option.{none}
use Rattle.std.proofs.Common.{arith}
use Rattle.model.specs.Choice.{joined}
use Rattle.model.specs.Number.{Bytes, bytes}
use Rattle.model.specs.Image.{is_image, contents_of}
use Rattle.model.specs.Names.{names_of, list_fault, listed}
use Rattle.model.specs.Reply.{accepted, unchanged, emit_bytes, also_says}
use Rattle.model.specs.FreezeList.{job_limit, freeze_index, answered, freeze_list_of}
use Rattle.laws_freezes.specs.Sizes.{indexes-length, listed_few}
use Rattle.laws_answers.specs.Values.{Below, none_below}

-- further values do not move the first
pub said-below : (s out : Bytes) (vs : List ℕ) → length s < 4294967296 → Below (also_says vs (emit_bytes s out)).reply
unfolding emit_bytes
said-below s out vs h = go (leb (length s) (length out))
  where
    go : (b : Bool) → Below (also_says vs (cond b (record { reply = accepted (length s ∷ []); buffer = s ++ drop (length s) out }) (unchanged 19 out))).reply
    go true = h
    go false = none_below 19

pub freezes_below : (image list out : Bytes) → Below (freeze_list_of image list out).reply
unfolding freeze_list_of
freezes_below image list out = go (is_image image) (list_fault (names_of true job_limit list))
  where
    go : (b : Bool) (n : ℕ) → Below (cond b (answered n (listed (names_of true job_limit list)) (contents_of image).real out) (unchanged 1 out)).reply
    go false n = none_below 1
    go true zero =
        said-below (joined (λ n. bytes 2 (freeze_index (contents_of image).real n)) (listed (names_of true job_limit list))) out _
        (omega (arith, indexes-length (freeze_index (contents_of image).real) (listed (names_of true job_limit list)), listed_few true job_limit none 0 list))
    go true (suc n) = none_below (suc n)
