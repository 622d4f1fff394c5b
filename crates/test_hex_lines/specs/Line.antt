-- A line of hexadecimal: what each byte of the input makes of the line so far.
use Rattle.std.specs.Prelude.{ℕ, ◌+◌, ◌*◌, ◌-◌, ◌%◌, Bool, true, false, cond, List, [], ◌∷◌, ◌++◌, eqb, leb, ltb, length, take}
use Rattle.test_hex_lines.specs.declared.Line.{Line}

-- the value of a digit of 0 to 9 and a to f; 16 where it is none
abbrev pub digit_of : ℕ → ℕ
digit_of b = cond (ltb b 48) 16 (cond (leb b 57) (b - 48) (cond (ltb b 97) 16 (cond (leb b 102) (b - 97 + 10) 16)))

-- the bytes so far, the first digit of the next one (16: none), whether the line is passed over, whether it has ended
pub record Held : Type 0 where
  pub bytes : List ℕ
  pub upper : ℕ
  pub passed : Bool
  pub ended : Bool

abbrev pub holding : List ℕ → ℕ → Bool → Bool → Held
holding bytes upper passed ended = record { bytes = bytes; upper = upper; passed = passed; ended = ended }

-- what a line holds in a buffer
abbrev pub held_in : List ℕ → Line → Held
held_in s l = holding (take l.len s) l.upper l.passed l.ended

-- a digit is the first of a byte, or completes one; a byte past the room is lost
unfoldable pub after_digit : ℕ → Held → ℕ → Held
after_digit room h d =
    cond (eqb h.upper 16) (holding h.bytes d h.passed h.ended)
    (cond (eqb (length h.bytes) room) (holding h.bytes 16 h.passed h.ended)
    (holding (h.bytes ++ ((h.upper % 16 * 16 + d % 16) ∷ [])) 16 h.passed h.ended))

-- the end of a line (10), a '#' (35), a digit; any other byte is passed over
unfoldable pub after_byte : ℕ → Held → ℕ → Held
after_byte room h b =
    cond (eqb b 10) (cond h.passed (holding [] 16 false false) (holding h.bytes h.upper h.passed true))
    (cond (eqb b 35) (holding h.bytes h.upper true h.ended)
    (cond h.passed h
    (cond (eqb (digit_of b) 16) h (after_digit room h (digit_of b)))))
