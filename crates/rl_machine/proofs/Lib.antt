mod EveryMoment
