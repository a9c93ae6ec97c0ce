-- The turns of the loop that writes the rows of all messages.
use Rattle.std.proofs.Common.{◌≡◌, ℕ, ◌+◌, ◌-◌, ◌<◌, ◌≤◌, true, List, [], ◌++◌, length, get_or, take, drop, ap, subst, arith, length-append}
use borrow.Rule.Slice.PartMut.{put_mid}
use Rattle.std.specs.List.{flat_map}
use Rattle.std.proofs.lemmas.List.{at_drop_all, length-drop, take_rest}
use Rattle.bus.specs.declared.message.Message.{Message}
use Rattle.search.specs.Net.{Leg}
use Rattle.boards.specs.Boards.{Board, rising_messages}
use Rattle.boards.specs.Nets.{net_of}
use Rattle.planner.specs.Checks.{margins_of, margin_rows}
use Rattle.planner.specs.Logs.{margin_count}
use Rattle.planner.specs.Spots.{Written, rows_for}
use Rattle.planner.specs.declared.rows.Margin.{Margin}
use Rattle.planner.proofs.Fronts.{Writing, Writing-part, Writing-front, Writing-within}
use Rattle.planner.proofs.MarginCounts.{length-margins_of, length-margin_rows, margins_as_many, rows_for-sum_few}
use Rattle.planner.proofs.Rising.{rising_messages-few}
use Rattle.planner.proofs.Turns.{drop-turn}

-- the rows of the messages from place i on are still to come
pub record Rows (b : Board) (os : List (List Leg)) (before now : List Margin) (i n : ℕ) : Type 0 where
  pub within : n ≤ length now
  pub left : Writing (flat_map (margins_of (net_of b) os) (drop i b.messages)) (margin_rows b os) before now n

module _ {b : Board} {os : List (List Leg)} {before now : List Margin} {i n : ℕ} (w : Rows b os before now i n) (ms : List Message) (same : ms ≡ b.messages) where
  module _ (m : Message) (more : i < length ms) (read : m ≡ get_or ms i m) where
    Rows-at_message : Writing (margins_of (net_of b) os m ++ flat_map (margins_of (net_of b) os) (drop (i + 1) b.messages)) (margin_rows b os) before now n
    Rows-at_message =
        subst (λ l. Writing l (margin_rows b os) before now n)
        (drop-turn (flat_map (margins_of (net_of b) os)) b.messages i m (subst (λ l. i < length l) same more) (subst (λ l. m ≡ get_or l i m) same read)) w.left

    Rows-need : n + rows_for m ≤ margin_count b
    Rows-need =
        omega (arith, Rows-at_message.left, length-append (margins_of (net_of b) os m) (flat_map (margins_of (net_of b) os) (drop (i + 1) b.messages)), length-margins_of (net_of b) os m, margins_as_many b os)

    -- there is room for the rows of the message
    pub Rows-room : length now ≡ length before → margin_count b ≤ length before → rows_for m ≤ length (take (length now - n) (drop n now))
    Rows-room same room = omega (arith, Rows-need, ap length (take_rest now n), length-drop n now)

    pub message_few : rising_messages b.messages ≡ true → (k : ℕ) → k ≡ length (margins_of (net_of b) os m) → n + k ≤ 512
    message_few rise k e =
        omega (arith, Rows-need, length-margins_of (net_of b) os m, length-margin_rows b [], rows_for-sum_few b.messages, rising_messages-few b.messages rise)

    pub Rows-written : (part : List Margin) (k : ℕ) → Written (margins_of (net_of b) os m) (take (length now - n) (drop n now)) part k →
        Rows b os before (put_mid n (length now - n) now part) (i + 1) (n + k)
    Rows-written part k p =
        let next =
        Writing-part (margins_of (net_of b) os m) (flat_map (margins_of (net_of b) os) (drop (i + 1) b.messages)) (margin_rows b os) before now part n k w.within Rows-at_message p
        in
        record { within = Writing-within _ _ _ _ _ next; left = next }

  -- 64 messages have at most eight rows each
  pub Rows-few : rising_messages b.messages ≡ true → n ≤ 512
  Rows-few rise = omega (arith, w.left.left, length-margin_rows b os, rows_for-sum_few b.messages, rising_messages-few b.messages rise)

  Rows-at_end : length ms ≤ i → Writing [] (margin_rows b os) before now n
  Rows-at_end h = subst (λ l. Writing l (margin_rows b os) before now n) (at_drop_all (flat_map (margins_of (net_of b) os)) b.messages i (subst (λ l. length l ≤ i) same h)) w.left

  pub Rows-front : length ms ≤ i → take n now ≡ margin_rows b os
  Rows-front h = Writing-front (margin_rows b os) before now n (Rows-at_end h)
