-- What is written makes the probe, and the probe has the key that its fields make.
use mathlib.Core.Path.{◌≡◌, ap, ap₂, ◌∙◌}
use mathlib.Core.List.{◌++◌, append-nil}
use mathlib.Core.Option.{some}
use Prim.Native.Nat.{ℕ, ◌+◌, ◌≤◌, ◌<◌}
use native.Mathlib.Omega.{arith}
use lib.ListN.{length, take, drop, length-append}
use lib.Seq.{take_at}
use Rattle.model.specs.Number.{Bytes}
use Rattle.model.specs.Run.{bytes_of}
use Rattle.model.specs.Kind.{kind_of}
use Rattle.model.specs.Key.{key_of}
use Rattle.model.specs.declared.Kind.{Kind}
use Rattle.laws_records.specs.Runs.{run-bytes}
use Rattle.keys.specs.Keys.{run_in, key_in, WidthsFit, Keyed}
use Rattle.records.specs.Answers.{put_at, head}
use Rattle.records.proofs.Written.{put_at-append}
use Rattle.find.specs.Probe.{probe_run, probe_size, probe_bytes}

-- 1. The writing

module _ (p p1 p2 p3 first second : Bytes) (kind : ℕ) (fits : probe_size first second ≤ length p) {len middle : ℕ}
    (el : len ≡ 6 + length first + length second) (em : middle ≡ 6 + length first) (e1 : p1 ≡ put_at p 0 (head kind len))
    (e2 : p2 ≡ put_at p1 3 (head 1 (length first) ++ first)) (e3 : p3 ≡ put_at p2 middle (head 2 (length second) ++ second)) where
  length_front : length (head kind len ++ (head 1 (length first) ++ first)) ≡ 6 + length first
  length_front = omega arith

  length_whole : length (head kind len ++ (head 1 (length first) ++ first) ++ (head 2 (length second) ++ second)) ≡ probe_size first second
  length_whole =
      length-append (head kind len ++ (head 1 (length first) ++ first)) (head 2 (length second) ++ second)
      ∙ ap (λ n. n + length (head 2 (length second) ++ second)) length_front
      ∙ omega arith

  all-written : p3 ≡ put_at p 0 (head kind len ++ (head 1 (length first) ++ first) ++ (head 2 (length second) ++ second))
  all-written =
      let two : p2 ≡ put_at p 0 (head kind len ++ (head 1 (length first) ++ first)) =
      e2 ∙ ap (λ x. put_at x 3 (head 1 (length first) ++ first)) e1 ∙ put_at-append p 0 (head kind len) (omega arith) (head 1 (length first) ++ first) in
      let front = head kind len ++ (head 1 (length first) ++ first) in
      let at : middle ≡ 0 + length front = omega (arith, em, length_front) in
      e3 ∙ ap₂ (λ x n. put_at x n (head 2 (length second) ++ second)) two at
      ∙ put_at-append p 0 front (omega (arith, length_front)) (head 2 (length second) ++ second)

  pub probe_written : take (probe_size first second) p3 ≡ probe_bytes kind first second
  unfolding bytes_of
  probe_written =
      let x = head kind len ++ (head 1 (length first) ++ first) ++ (head 2 (length second) ++ second) in
      ap (take (probe_size first second)) all-written
      ∙ take_at x (drop (0 + length x) p) (probe_size first second) length_whole
      ∙ rw (el, append-nil second)

-- 2. The key

module _ (kind : ℕ) (k : Kind) (known : kind_of kind ≡ some k) (first second : Bytes) (short : probe_size first second < 65536) where
  probe_run_lem : run_in (probe_bytes kind first second) ≡ probe_run first second
  probe_run_lem = run-bytes (probe_run first second) tt (omega arith, (omega arith, tt))

  pub probe_keyed : WidthsFit k (probe_run first second) → Keyed (probe_bytes kind first second)
  probe_keyed h = record { headed = omega arith; kind = k; known = known; widths = rw probe_run_lem h }

  pub probe_key : key_in (probe_bytes kind first second) ≡ key_of k (probe_run first second)
  unfolding key_in
  probe_key = rw (known, probe_run_lem)
