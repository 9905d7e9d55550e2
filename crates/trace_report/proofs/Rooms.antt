-- No use of the caches changes for how many lines each of their sets has room.
use Rattle.trace_report.proofs.Vocabulary.{Awaited, Bool, Caches, Entry, I, List, M, MemoryAccess, None, Option, Request, SmD, Some, Table}
use Rattle.trace_report.proofs.Vocabulary.{TagSet, TagSets, Transient, Used, [], ap, asked_caches_in, asked_for, at_line, at_others}
use Rattle.trace_report.proofs.Vocabulary.{completed, completed_in, filled, in_next, map, next_in_place, no_set, refl, request_for}
use Rattle.trace_report.proofs.Vocabulary.{requested, sets_of, snoop_column, snooped, snooped_in, suc, table_of_rows, tag_at, tag_of}
use Rattle.trace_report.proofs.Vocabulary.{tags_at, used, used_between, used_by, whole_access, whole_in, zero, ℕ, ◌/◌, ◌∙◌, ◌∷◌, ◌≡◌}
use Rattle.trace_report.proofs.Vocabulary.{awaiting, awaited_as, at_core}
use Rattle.std.proofs.Math.Seq.{map-set_same}
use Rattle.protocol_tables.specs.declared.state.State.{State}
use Rattle.protocol_tables.specs.declared.state.Snoop.{Snoop}
use Rattle.multiprocessor.proofs.EachUse.{each-use}

-- for how many lines each set of a cache has room, and each set of each core's
abbrev pub room_of : TagSets → List ℕ
room_of sets = map (λ s. s.ways) sets

abbrev pub rooms_of : List TagSets → List (List ℕ)
rooms_of caches = map room_of caches

abbrev KeepsRoom : (TagSet → TagSet) → Type 0
KeepsRoom change = (s : TagSet) → (change s).ways ≡ s.ways

line-room : (line : ℕ) (change : TagSet → TagSet) (sets : TagSets) → KeepsRoom change → room_of (at_line line change sets) ≡ room_of sets
line-room line change sets keeps = map-set_same (λ s. s.ways) sets _ (change (tags_at sets line)) no_set (keeps (tags_at sets line))

core-room : (core line : ℕ) (change : TagSet → TagSet) (caches : List TagSets)
    → KeepsRoom change
    → rooms_of (at_core core (at_line line change) caches) ≡ rooms_of caches
core-room core line change caches keeps =
    map-set_same room_of caches core (at_line line change (sets_of caches core)) [] (line-room line change (sets_of caches core) keeps)

each-room : (line : ℕ) (change : TagSet → TagSet) (caches : List TagSets) → KeepsRoom change → rooms_of (map (at_line line change) caches) ≡ rooms_of caches
each-room line change [] keeps = refl
each-room line change (sets ∷ caches) keeps =
    ap (λ r. r ∷ rooms_of (map (at_line line change) caches)) (line-room line change sets keeps)
    ∙ ap (λ rs. room_of sets ∷ rs) (each-room line change caches keeps)

others-room : (core line : ℕ) (change : TagSet → TagSet) (caches : List TagSets)
    → KeepsRoom change
    → rooms_of (at_others core (at_line line change) caches) ≡ rooms_of caches
others-room core line change [] keeps = refl
others-room zero line change (sets ∷ caches) keeps = ap (λ rs. room_of sets ∷ rs) (each-room line change caches keeps)
others-room (suc core) line change (sets ∷ caches) keeps =
    ap (λ r. r ∷ rooms_of (at_others core (at_line line change) caches)) (line-room line change sets keeps)
    ∙ ap (λ rs. room_of sets ∷ rs) (others-room core line change caches keeps)

snooped-room : (on : State → Snoop) (line : ℕ) → KeepsRoom (snooped on line)
snooped-room on line s = by_tag (tag_of s line)
  where
    by_next : (state : State) → (in_next line state s).ways ≡ s.ways
    by_next I = refl
    by_next _ = refl

    by_tag : (o : Option State) → (snooped_in on line o s).ways ≡ s.ways
    by_tag None = refl
    by_tag (Some state) = by_next (on state).next

requested-rooms : (on : State → Snoop) (core line : ℕ) (caches : List TagSets) → rooms_of (requested on core line caches) ≡ rooms_of caches
requested-rooms on core line caches = others-room core line (snooped on line) caches (snooped-room on line)

used-room : (core line : ℕ) (state : State) (caches : List TagSets) → rooms_of (used_by core line state caches) ≡ rooms_of caches
used-room core line state caches = core-room core line (used line state) caches (λ s. refl)

-- ---- an access

completed-rooms : (t : Table) (core line : ℕ) (w : Option Awaited) (caches : List TagSets) → rooms_of (completed t core line w caches).caches ≡ rooms_of caches
completed-rooms t core line None caches = used-room core line M caches
completed-rooms t core line (Some x) caches = by_transient x.transient
  where
    by_transient : (y : Transient) → rooms_of (completed_in t core line y x.state x.flushed caches).caches ≡ rooms_of caches
    by_transient SmD = used-room core line x.state caches
    by_transient _ = core-room core line (filled line x.state) caches (λ s. refl)

whole-rooms : (t : Table) (write : Bool) (core line : ℕ) (caches : List TagSets) → rooms_of (whole_access t write core line caches).caches ≡ rooms_of caches
whole-rooms t write core line caches = by_next (next_in_place t write (tag_at core line caches))
  where
    by_next : (next : Option State) → rooms_of (whole_in t write core line caches (tag_at core line caches) next).caches ≡ rooms_of caches
    by_next (Some next) = used-room core line next caches
    by_next None =
        completed-rooms t core line
        (Some (awaiting t (request_for write) line caches (awaited_as write (tag_at core line caches))))
        (requested (snoop_column t (request_for write)) core line caches)
        ∙ requested-rooms (snoop_column t (request_for write)) core line caches

asked-rooms : (t : Table) (request : Request) (core line : ℕ) (o : Option Transient) (caches : List TagSets)
    → rooms_of (asked_caches_in t request core line o caches) ≡ rooms_of caches
asked-rooms t request core line None caches = refl
asked-rooms t request core line (Some x) caches = requested-rooms (snoop_column t request) core line caches

-- ---- a use

abbrev KeepsRooms : Caches → Used → Type 0
KeepsRooms c u = rooms_of u.caches.contents ≡ rooms_of c.contents

pub used-rooms : (c : Caches) (core : ℕ) (before after : Bool) (what : MemoryAccess) (pending commits : List Entry)
    → KeepsRooms c (used_between before after c core what pending commits)
used-rooms c core before after what pending commits =
    each-use (KeepsRooms c) c refl refl (λ k loc write. whole-rooms (table_of_rows c.rows) write k (loc / c.shape.words) c.contents) core
    (λ loc write.
    asked-rooms (table_of_rows c.rows) (request_for write) core (loc / c.shape.words)
    (asked_for (request_for write) core (loc / c.shape.words) c.contents) c.contents)
    (λ loc. completed-rooms (table_of_rows c.rows) core (loc / c.shape.words) c.awaited c.contents) before after what pending commits
