mod FreshLaws
mod SeatLists
