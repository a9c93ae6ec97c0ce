-- Writing over the front of a list: what is written, what is still to come, and what is as it was.
use Rattle.std.proofs.Common.{◌≡◌, ℕ, ◌+◌, ◌-◌, ◌<◌, ◌≤◌, List, [], ◌∷◌, ◌++◌, length, take, drop, set, sym, refl, ap, ◌∙◌, subst, append_assoc, append-nil, arith, length-append}
use borrow.Rule.Slice.PartMut.{put_mid}
use Rattle.std.proofs.lemmas.List.{take_more_set, drop-set-lt, drop-drop, drop_all, drop_at, take-append-drop, take_at, take_rest, length-take, length-take-le, length-drop}
use Rattle.planner.specs.Spots.{Written}

-- n elements of `all` are written over the front of `before`, which makes `now`, and `todo` is still to come
pub record Writing {X : Type 0} (todo all before now : List X) (n : ℕ) : Type 0 where
  pub left : n + length todo ≡ length all
  pub front : take n now ++ todo ≡ all
  pub rest : drop n now ≡ drop n before

module _ {X : Type 0} where
  pub Writing-none : (all before : List X) → Writing all all before before 0
  Writing-none all before = record { left = omega arith; front = refl; rest = refl }

  pub writing-is : {todo all before now then' : List X} {n k : ℕ} → then' ≡ now → k ≡ n → Writing todo all before now n → Writing todo all before then' k
  writing-is {todo} {all} {before} {now} {then'} {n} {k} e f w = subst (λ l. Writing todo all before l k) (sym e) (subst (Writing todo all before now) (sym f) w)

  drop-further : (n k : ℕ) (xs ys : List X) → drop n xs ≡ drop n ys → drop (n + k) xs ≡ drop (n + k) ys
  drop-further n k xs ys e = sym (drop-drop k n xs) ∙ ap (drop k) e ∙ drop-drop k n ys

  -- one element more
  pub Writing-more : (v : X) (todo all before now : List X) (n : ℕ) → n < length now → Writing (v ∷ todo) all before now n → Writing todo all before (set now n v) (n + 1)
  Writing-more v todo all before now n within w =
      record {
        left = omega (arith, w.left);
        front = ap (λ l. l ++ todo) (take_more_set now n v within) ∙ append_assoc (take n now) (v ∷ []) todo ∙ w.front;
        rest = drop-set-lt (n + 1) now n v (omega arith) ∙ drop-further n 1 now before w.rest;
      }

  -- what is written
  pub Writing-front : (all before now : List X) (n : ℕ) → Writing [] all before now n → take n now ≡ all
  Writing-front all before now n w = sym (append-nil (take n now)) ∙ w.front

  pub Writing-done : (all before now : List X) (n : ℕ) → Writing [] all before now n → Written all before now n
  Writing-done all before now n w =
      record {
        count = omega (arith, w.left);
        rows = sym (take-append-drop n now) ∙ ap (λ l. l ++ drop n now) (Writing-front all before now n w) ∙ ap (λ l. all ++ l) w.rest;
      }

  -- several more, written over the front of the part from n on
  pub Writing-part : (new todo all before now part : List X) (n k : ℕ) → n ≤ length now → Writing (new ++ todo) all before now n →
      Written new (take (length now - n) (drop n now)) part k → Writing todo all before (put_mid n (length now - n) now part) (n + k)
  Writing-part new todo all before now part n k within w p =
      let rest = drop k (drop n now) in
      let past : drop (length now - n) (drop n now) ≡ [] = drop_all (length now - n) (drop n now) (omega (arith, length-drop n now)) in
      let is : put_mid n (length now - n) now part ≡ (take n now ++ new) ++ rest =
      ap (λ l. take n now ++ (part ++ l)) past
      ∙ ap (λ l. take n now ++ l) (append-nil part ∙ p.rows ∙ ap (λ l. new ++ drop k l) (take_rest now n))
      ∙ sym (append_assoc (take n now) new rest)
      in
      let long : length (take n now ++ new) ≡ n + k = length-append (take n now) new ∙ omega (arith, length-take-le n now within, p.count) in
      subst (λ l. Writing todo all before l (n + k)) (sym is)
      (record {
        left = omega (arith, w.left, length-append new todo, p.count);
        front = ap (λ l. l ++ todo) (take_at (take n now ++ new) rest (n + k) long) ∙ append_assoc (take n now) new todo ∙ w.front;
        rest = drop_at (take n now ++ new) rest (n + k) long ∙ drop-drop k n now ∙ drop-further n k now before w.rest;
      })

  pub Writing-within : (todo all before now : List X) (n : ℕ) → Writing todo all before now n → n ≤ length now
  Writing-within todo all before now n w =
      omega (arith, w.left, ap length w.front, length-append (take n now) todo, length-take n now)
