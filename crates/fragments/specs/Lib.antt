-- How a room's bodies move; how heads and a room hold fragments, and what each function on them promises.
pub mod Room
pub mod Fragments
