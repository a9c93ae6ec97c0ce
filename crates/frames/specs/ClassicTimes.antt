-- The classic time by the number of whole frames and the remainder, and its range.
use Rattle.std.specs.Prelude.{◌≡◌, ℕ, ◌+◌, ◌*◌, ◌/◌, ◌%◌, ◌<◌, ◌≤◌, cond, [], ◌∷◌, replicate, sum_by, ◌==◌, ◌≢◌}
use Rattle.std.proofs.Common.{sym, ap, subst, ◌∙◌, ⊎_elim, arith}
use Rattle.std.proofs.lemmas.Nat.{mul-le}
use Rattle.std.proofs.lemmas.List.Folds.{sum_by-replicate}
use Rattle.std.proofs.lemmas.List.Sums.{sum_by-append}
use Rattle.std.proofs.lemmas.Bool.{cond-false, le-leb, lt-leb, eq-eqb, ne_eqb, cases_lt, cases_eq}
use Rattle.bus.specs.Range.{In, bit_times, payloads, frame_times}
use Rattle.frames.specs.Classic.{frame, classic_time, can11_time, can29_time}

module _ (base bit s : ℕ) where
  pub one_frame : s ≤ 8 → classic_time base bit s ≡ frame base bit s
  one_frame h = rw (le-leb s 8 h) (omega arith)

  long : 8 < s → classic_time base bit s ≡ s / 8 * frame base bit 8 + sum_by (frame base bit) (cond (s % 8 == 0) [] (s % 8 ∷ []))
  long h =
      ap (λ l. sum_by (frame base bit) l) (cond-false _ _ _ (lt-leb s 8 h))
      ∙ sum_by-append (frame base bit) (replicate (s / 8) 8) _
      ∙ ap (λ z. z + sum_by (frame base bit) (cond (s % 8 == 0) [] (s % 8 ∷ []))) (sum_by-replicate (frame base bit) (s / 8) 8)

  pub whole_frames : 8 < s → s % 8 ≡ 0 → classic_time base bit s ≡ s / 8 * frame base bit 8
  whole_frames h e = long h ∙ rw (eq-eqb (s % 8) 0 e) (omega arith)

  pub frames_and_rest : 8 < s → (s % 8 ≢ 0) → classic_time base bit s ≡ s / 8 * frame base bit 8 + frame base bit (s % 8)
  frames_and_rest h e = long h ∙ rw (ne_eqb (s % 8) 0 e) (omega arith)

  pub frame-high : base ≤ 80 → bit ≤ 100000 → s ≤ 8 → frame base bit s ≤ 16000000
  frame-high g h k = mul-le (base + 10 * s) bit 160 100000 (omega arith) h

  pub frame-low : 1 ≤ base → 50 ≤ bit → 1 ≤ frame base bit s
  frame-low g h = mul-le 1 1 (base + 10 * s) bit (omega arith) (omega arith)

-- at most eight frames, each of at most 160 bits
pub frames_high : (base bit s : ℕ) → base ≤ 80 → bit ≤ 100000 → s ≤ 64 → s / 8 * frame base bit 8 ≤ s / 8 * 16000000
frames_high base bit s g h k = mul-le (s / 8) (frame base bit 8) (s / 8) 16000000 (omega arith) (frame-high base bit 8 g h (omega arith))

pub classic_range : (base bit s : ℕ) → 1 ≤ base → base ≤ 80 → In bit_times bit → In payloads s → In frame_times (classic_time base bit s)
classic_range base bit s low high b p =
    ⊎_elim
    (λ (h : 8 < s).
    ⊎_elim
    (λ (e : s % 8 ≡ 0).
    let t : In frame_times (s / 8 * frame base bit 8) =
    (mul-le 1 1 (s / 8) (frame base bit 8) (omega arith) (frame-low base bit 8 low b.0), omega (arith, frames_high base bit s high b.1 p.1))
    in subst (In frame_times) (sym (whole_frames base bit s h e)) t)
    (λ (e : s % 8 ≡ 0 → ⊥).
    let t : In frame_times (s / 8 * frame base bit 8 + frame base bit (s % 8)) = (
      omega (arith, frame-low base bit (s % 8) low b.0),
      omega (arith, frames_high base bit s high b.1 p.1, frame-high base bit (s % 8) high b.1 (omega arith)),
    )
    in subst (In frame_times) (sym (frames_and_rest base bit s h e)) t)
    (cases_eq (s % 8) 0))
    (λ (h : s ≤ 8).
    let t : In frame_times (frame base bit s) = (frame-low base bit s low b.0, omega (arith, frame-high base bit s high b.1 h)) in
    subst (In frame_times) (sym (one_frame base bit s h)) t)
    (cases_lt 8 s)

-- the range of the two carriers' times
pub can11_range : (bit s : ℕ) → In bit_times bit → In payloads s → In frame_times (can11_time bit s)
can11_range bit s = classic_range 55 bit s (omega arith) (omega arith)

pub can29_range : (bit s : ℕ) → In bit_times bit → In payloads s → In frame_times (can29_time bit s)
can29_range bit s = classic_range 80 bit s (omega arith) (omega arith)
