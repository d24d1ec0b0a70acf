-- The number that is kept for an item: its place (under 2^20), and above it its sort, whether it stands in a branch, whether its name is a label,
-- whether it is a choice that leaves.
use Rattle.std.specs.Prelude.{ℕ, ◌+◌, ◌*◌, ◌/◌, ◌%◌, Bool, true, false, not, ◌&&◌, List, [], ◌∷◌, take, drop, ◌==◌, nat_lt, slice_index_or}
use Rattle.fields.specs.Bytes.{Head, pick, head_of}
use Rattle.records.specs.declared.sorts.Sort.{Sort as Kind}
use Rattle.records.specs.declared.sorts.Sort.TheVariants.{Plain as plain, Temp as temp, Divert as divert, Tunnel as tunnel, Thread as thread, Call as call, Variable as variable, Argument as argument, Choice as choice, Gather as gather}
use Rattle.records.specs.Items.{code, What, is, Item, name_start, record_name}

-- a test as a number
unfoldable pub bit : Bool → ℕ
bit true = 1
bit false = 0

-- sort, branch, label and leaving as one number under 128
unfoldable pub mark_of : What → ℕ
mark_of w = code w.kind + 16 * bit w.branch + 32 * bit w.labels + 64 * bit w.leaves

-- THE NUMBER of an item
unfoldable pub number_of : Item → ℕ
number_of i = i.place + 1048576 * mark_of i.what

-- THE NUMBERS KEPT of some items: of each that is not plain, in order
unfoldable pub kept_numbers : List Item → List ℕ
kept_numbers [] = []
kept_numbers (i ∷ l) = pick (is plain i.what) (kept_numbers l) (number_of i ∷ kept_numbers l)

-- what a number says: the place,
unfoldable pub place_in : ℕ → ℕ
place_in x = x % 1048576

-- the sorts of records in the order of their numbers
abbrev pub sorts : List Kind
sorts = plain ∷ temp ∷ divert ∷ tunnel ∷ thread ∷ call ∷ variable ∷ argument ∷ choice ∷ gather ∷ []

-- the sort,
unfoldable pub sort_in : ℕ → Kind
sort_in x = slice_index_or sorts (x / 1048576 % 16) plain

-- whether the item stands in a branch,
unfoldable pub branch_in : ℕ → Bool
branch_in x = x / 1048576 / 16 % 2 == 1

-- whether its name is a label,
unfoldable pub labels_in : ℕ → Bool
labels_in x = x / 1048576 / 32 % 2 == 1

-- whether it is a choice that leaves
unfoldable pub leaves_in : ℕ → Bool
leaves_in x = x / 1048576 / 64 == 1

-- the payload behind a head
unfoldable pub payload_behind : Head → List ℕ → List ℕ
payload_behind (Head.Piece kind n) s = take n (drop 5 s)
payload_behind (Head.Refused x) s = []

-- the payload of the record whose kind byte stands at the place
unfoldable pub payload_at : List ℕ → ℕ → List ℕ
payload_at file place = payload_behind (head_of (drop place file)) (drop place file)

-- THE ITEM of a number, in the file
unfoldable pub item_in : List ℕ → ℕ → Item
item_in file x = record {
  place = place_in x;
  named = place_in x + (5 + name_start (sort_in x));
  what = record {
    kind = sort_in x;
    name = record_name (sort_in x) (payload_at file (place_in x));
    labels = labels_in x;
    branch = branch_in x;
    leaves = leaves_in x;
  };
}

-- the numbers of items that stand from the first place on and before the second
unfoldable pub between : ℕ → ℕ → List ℕ → List ℕ
between from to [] = []
between from to (x ∷ xs) = pick (not (nat_lt (place_in x) from) && nat_lt (place_in x) to) (x ∷ between from to xs) (between from to xs)
